-- Every plan that was read means a sound program, with its counts.
use Rattle.std.proofs.Common.{ℕ, List, ℤ}
use Rattle.records.specs.declared.record.Record.{Record}
use Rattle.plan.specs.Meaning.{Meant}
use Rattle.plan.specs.Plans.{WasRead, records_in}
use Rattle.plan.proofs.Checks.{was_checked}
use Rattle.plan.proofs.Counts.{moves-agree, sends-agree, threads-agree}
use Rattle.plan.proofs.Edges.{narrow_program}
use Rattle.plan.proofs.Limits.{limited_program}
use Rattle.plan.proofs.Sounds.{sound_program}

pub meaning_of : {Level : Type 0} (made : ℤ → ℤ → Level) (text : List ℕ) (sheet : List Record) → WasRead text sheet → Meant made sheet
meaning_of made text sheet w =
    let c = was_checked text sheet w in
    let rs : List Record = records_in sheet in
    record {
      checked = c;
      sound = sound_program rs c made;
      limited = limited_program rs c made;
      narrow = narrow_program rs c made;
      threads = threads-agree made rs c;
      moves = moves-agree made rs c;
      sends = sends-agree made rs c;
    }
