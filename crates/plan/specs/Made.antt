-- The lists, the threads and the index of a plan are those of its sheet.
use Rattle.std.specs.Prelude.{◌≡◌, ℕ, List}
use Rattle.index.specs.declared.index.Index.{Index}
use Rattle.index.specs.Entries.{Indexed}
use Rattle.records.specs.declared.record.Record.{Record}
use Rattle.tasks.specs.Records.{View, tasks_of, view_of}
use Rattle.plan.specs.Plans.{plan_threads, records_in}

pub record Made (lists : View) (threads : List ℕ) (index : Index) (sheet : List Record) : Type 0 where
  pub listed : lists ≡ view_of (records_in sheet)
  pub crew : threads ≡ plan_threads sheet
  pub indexed : Indexed (records_in sheet) (tasks_of (records_in sheet)) index
