use Rattle.std.proofs.Common.{◌≡◌, pos, ◌+ℤ◌, ◌-ℤ◌, sym, ap, ◌∙◌, arith, w32}
use Rattle.std.specs.Int.{int_wrap}
use Rattle.std.proofs.lemmas.Int.{ints}
use Rattle.index.specs.Amounts.{amount_in, carried_by}
use Rattle.model.specs.Program.{same}
use Rattle.plan.specs.Plans.{records_in}
use Rattle.plan.specs.Program.{program_of}
use Rattle.plan.specs.Steps.{step_seen}
use Rattle.rules.specs.Accounts.{count_of, held_by}
use Rattle.rules.specs.Changes.{locked_by, paid_by}
use Rattle.rules.proofs.performing.perform.Goals as goal

pub returns-in-Send : goal.returns-in-Send
returns-in-Send g c =
    let a = c.args.account.now in
    let rs = records_in c.args.plan.now.sheet.now in
    record {
      counts = λ x h.
          let own = c.gained-amounts.ensures x h in
          let carried = c.carried.ensures x h in
          let sum : count_of a x +ℤ amount_in c.gained-amounts.result x ≡ count_of a x +ℤ pos (same x c.in-Send.channel) -ℤ pos (carried_by rs c.in-Send.channel x) = omega (arith, ints) in
          c.add.ensures x h ∙ ap (int_wrap w32) sum
          ∙ ap (λ s. paid_by (program_of g.O.WaitOrder.made rs) (step_seen s) (count_of a) x) (sym c.in-Send.is);
      locks = λ x h. ap (λ s. locked_by (step_seen s) (held_by a) x) (sym c.in-Send.is);
    }

pub returns-in-Receive : goal.returns-in-Receive
returns-in-Receive g c =
    let a = c.args.account.now in
    let rs = records_in c.args.plan.now.sheet.now in
    record {
      counts = λ x h.
          let own = c.gained-amounts-in-Receive.ensures x h in
          let carried = c.carried-in-Receive.ensures x h in
          let sum : count_of a x -ℤ amount_in c.gained-amounts-in-Receive.result x ≡ count_of a x -ℤ pos (same x c.in-Receive.channel) +ℤ pos (carried_by rs c.in-Receive.channel x) = omega (arith, ints) in
          c.subtract.ensures x h ∙ ap (int_wrap w32) sum
          ∙ ap (λ s. paid_by (program_of g.O.WaitOrder.made rs) (step_seen s) (count_of a) x) (sym c.in-Receive.is);
      locks = λ x h. ap (λ s. locked_by (step_seen s) (held_by a) x) (sym c.in-Receive.is);
    }

pub returns-in-Acquire : goal.returns-in-Acquire
returns-in-Acquire g c =
    let a = c.args.account.now in
    let rs = records_in c.args.plan.now.sheet.now in
    record {
      counts = λ x h.
          ap (λ s. paid_by (program_of g.O.WaitOrder.made rs) (step_seen s) (count_of a) x) (sym c.in-Acquire.is);
      locks = λ x h. c.set_lock.ensures x h ∙ ap (λ s. locked_by (step_seen s) (held_by a) x) (sym c.in-Acquire.is);
    }

pub returns-in-Release : goal.returns-in-Release
returns-in-Release g c =
    let a = c.args.account.now in
    let rs = records_in c.args.plan.now.sheet.now in
    record {
      counts = λ x h.
          ap (λ s. paid_by (program_of g.O.WaitOrder.made rs) (step_seen s) (count_of a) x) (sym c.in-Release.is);
      locks = λ x h. c.set_lock-in-Release.ensures x h ∙ ap (λ s. locked_by (step_seen s) (held_by a) x) (sym c.in-Release.is);
    }

pub returns-in-Closing : goal.returns-in-Closing
returns-in-Closing g c =
    let a = c.args.account.now in
    let rs = records_in c.args.plan.now.sheet.now in
    record {
      counts = λ x h.
          ap (λ s. paid_by (program_of g.O.WaitOrder.made rs) (step_seen s) (count_of a) x) (sym c.in-Closing.is);
      locks = λ x h. ap (λ s. locked_by (step_seen s) (held_by a) x) (sym c.in-Closing.is);
    }
