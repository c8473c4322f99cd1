-- A step of a plan, as a step of the model.
use Rattle.std.specs.Prelude.{ℕ}
use Rattle.model.specs.Program.{closing, operation, send, receive, acquire, release, start}
use Rattle.model.specs.Program as model
use Rattle.plan.specs.declared.step.Step.{Step}
use Rattle.plan.specs.declared.step.Step.TheVariants.{Send, Receive, Acquire, Release, Start, Closing}

abbrev pub step_seen : Step → model.Step ℕ
step_seen (Send channel word) = operation (send channel word)
step_seen (Receive channel) = operation (receive channel)
step_seen (Acquire lock) = operation (acquire lock)
step_seen (Release lock) = operation (release lock)
step_seen (Start task) = operation (start task)
step_seen Closing = closing
