use Rattle.std.proofs.Common.{◌≡◌, ◌+◌, ◌≤◌, suc, Err, length, sym, ap, ◌∙◌, arith, rules}
use Rattle.plan.specs.Plans.{records_in}
use Rattle.plan.specs.Program.{program_of}
use Rattle.clearer.specs.Breach.{at_line, step_breach, task_breach}
use Rattle.clearer.specs.Faults.{breach_seen, verdict_of}
use Rattle.clearer.proofs.Hits.{left_all, left_none, step_found, step_passed}
use Rattle.clearer.proofs.Walks.{judged_walk, walked-first, walked_next}
use Rattle.clearer.proofs.walk.walk_task.Goals as goal

pub loop-place-init : goal.loop-place-init
unfolding task_breach
loop-place-init g c =
    let P = program_of g.O.WaitOrder.made (records_in c.args.plan.now.sheet.now) in
    let o = c.opening_of.ensures in
    (left_all (step_breach P g.O.WaitOrder.below c.args.task) (suc (length (P.ops c.args.task))), λ l. walked-first P c.meaning.ensures.narrow c.args.task c.requires c.opening_of.result o.whole o.locks o.counts)

pub returns-in_err-walk_step : goal.returns-in_err-walk_step
unfolding task_breach
returns-in_err-walk_step g c =
    let P = program_of g.O.WaitOrder.made (records_in c.args.plan.now.sheet.now) in
    let f = step_breach P g.O.WaitOrder.below c.args.task in
    let p = c.loop-place.place in
    let fault = c.in_err-walk_step.field-0.0 in
    let is : c.from_residual.result ≡ Err fault = search rules in
    let inside : c.loop-place.place ≤ length (P.ops c.args.task) = omega (arith, c.loop-place-test.true, c.operation_count-place-end.ensures) in
    let judged = ap (at_line (P.line c.args.task p)) (judged_walk P c.args.task p c.loop-place.account (c.loop-place.invariant.1 inside) g.O.WaitOrder.below) in
    ap verdict_of is ∙ step_found f p (suc (length (P.ops c.args.task))) _ _ c.loop-place.invariant.0 judged (breach_seen fault) (omega (arith, inside)) c.in_err-walk_step.ensures.found

pub loop-place-preserved : goal.loop-place-preserved
unfolding task_breach
loop-place-preserved g c =
    let P = program_of g.O.WaitOrder.made (records_in c.args.plan.now.sheet.now) in
    let f = step_breach P g.O.WaitOrder.below c.args.task in
    let p = c.loop-place.place in
    let m = c.meaning.ensures in
    let s = c.in_ok-walk_step.ensures in
    let inside : c.loop-place.place ≤ length (P.ops c.args.task) = omega (arith, c.loop-place-test.true, c.operation_count-place-end.ensures) in
    let w = c.loop-place.invariant.1 inside in
    let judged = ap (at_line (P.line c.args.task p)) (judged_walk P c.args.task p c.loop-place.account w g.O.WaitOrder.below) in (
      step_passed f p (suc (length (P.ops c.args.task))) _ _ c.loop-place.invariant.0 judged (omega (arith, inside)) s.found,
      λ l. walked_next P c.args.task p c.loop-place.account w m.sound m.limited m.narrow c.walk_step.new.account s.whole (omega (arith, l)) s.counts s.locks,
    )

pub returns-in_ok-walk_step : goal.returns-in_ok-walk_step
unfolding task_breach
returns-in_ok-walk_step g c =
    let P = program_of g.O.WaitOrder.made (records_in c.args.plan.now.sheet.now) in
    let f = step_breach P g.O.WaitOrder.below c.args.task in
    let p = c.loop-place.place in
    let n = suc (length (P.ops c.args.task)) in
    let inside : c.loop-place.place ≤ length (P.ops c.args.task) = omega (arith, c.loop-place-test.true, c.operation_count-place-end.ensures) in
    let judged = ap (at_line (P.line c.args.task p)) (judged_walk P c.args.task p c.loop-place.account (c.loop-place.invariant.1 inside) g.O.WaitOrder.below) in
    sym
    (step_passed f p n _ _ c.loop-place.invariant.0 judged (omega (arith, inside)) c.in_ok-walk_step.ensures.found
    ∙ left_none f (p + 1) n (omega (arith, c.operation_count-place-end.ensures)))
