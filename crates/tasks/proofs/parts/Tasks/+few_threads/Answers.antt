use Rattle.std.proofs.Common.{◌+◌, length, sym, ap, ◌∙◌, arith}
use Rattle.tasks.specs.Records.{blank}
use Rattle.tasks.specs.Threads.{body_of, brought, crew}
use Rattle.tasks.proofs.Crews.{brought-all, brought-other, brought-started, crew-length}
use Rattle.tasks.proofs.parts.Tasks.+few_threads.Goals as goal
use Rattle.tasks.proofs.parts.Tasks.+few_threads.Goals.{then-starts+in_ok-n+else-n-gt-MOST_THREADS, else-starts}

pub loop-row-init : goal.loop-row-init
loop-row-init t c =
    let f = crew (body_of c.args.self.now.records.now c.args.self.now.rows.now) in
    (omega arith, crew-length (body_of c.args.self.now.records.now c.args.self.now.rows.now) c.args.task ∙ ap (λ ops. 1 + length (brought f c.args.task ops)) (sym c.body_of-body.ensures))

pub overflow_add-n : goal.overflow_add-n
overflow_add-n t c = omega (arith, c.loop-row.invariant.0, c.in_ok-n.ensures)

pub returns-then-n-gt-MOST_THREADS : goal.returns-then-n-gt-MOST_THREADS
returns-then-n-gt-MOST_THREADS t c =
    let f = crew (body_of c.args.self.now.records.now c.args.self.now.rows.now) in
    let e = brought-started f c.args.task c.body_of-body.result.now c.loop-row.row-index blank c.loop-row-test.true c.if-starts.ensures in
    omega (arith, e, c.in_ok-n.ensures, c.loop-row.invariant, c.if-n-gt-MOST_THREADS.true)

pub returns : goal.returns
returns t c =
    let f = crew (body_of c.args.self.now.records.now c.args.self.now.rows.now) in
    let e = ap length (brought-all f c.args.task c.body_of-body.result.now c.loop-row.row-index c.loop-row-test.false) in
    omega (arith, e, c.loop-row.invariant)

pub loop-row-preserved : goal.loop-row-preserved
loop-row-preserved t c =
    let f = crew (body_of c.args.self.now.records.now c.args.self.now.rows.now) in
    elim c.if-starts.branch [
      | then-starts+in_ok-n+else-n-gt-MOST_THREADS w ↦
          let e = brought-started f c.args.task c.body_of-body.result.now c.loop-row.row-index blank c.loop-row-test.true w.if-starts.ensures in
          (omega (arith, w.n-is, w.if-n-gt-MOST_THREADS.false), omega (arith, w.n-is, e, w.in_ok-n.ensures, w.if-n-gt-MOST_THREADS.false, c.loop-row.invariant))
      | else-starts w ↦
          let e = brought-other f c.args.task c.body_of-body.result.now c.loop-row.row-index blank c.loop-row-test.true w.if-starts.ensures in
          (omega (arith, w.n-is, c.loop-row.invariant.0), omega (arith, w.n-is, e, c.loop-row.invariant))
    ]
