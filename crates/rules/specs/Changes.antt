-- What a step does to the counts and to the locks of its thread's account. Counts have 32 bits, and wrap; the accounts of
-- a plan stay within 51,300, where nothing does. A closing changes nothing.
use Rattle.std.specs.Int.{int_wrap, w32}
use Rattle.model.specs.Program.{Account, Locks, Program, Step, closing, operation, send, receive, acquire, release, start}
use Rattle.model.specs.Rules.{locked, paid}

abbrev pub paid_by : {Level Message : Type 0} → Program Level Message → Step Message → Account → Account
paid_by P (operation (send c m)) a x = int_wrap w32 (paid P (send c m) a x)
paid_by P (operation (receive c)) a x = int_wrap w32 (paid P (receive c) a x)
paid_by P (operation (acquire l)) a x = paid P (acquire l) a x
paid_by P (operation (release l)) a x = paid P (release l) a x
paid_by P (operation (start u)) a x = int_wrap w32 (paid P (start u) a x)
paid_by P closing a x = a x

abbrev pub locked_by : {Message : Type 0} → Step Message → Locks → Locks
locked_by (operation o) h x = locked o h x
locked_by closing h x = h x
