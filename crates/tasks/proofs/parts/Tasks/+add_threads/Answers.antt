use Rattle.std.proofs.Common.{◌≡◌, ℕ, ◌+◌, true, false, List, [], ◌∷◌, ◌++◌, length, get_or, drop, sym, ap, ◌∙◌, append_assoc, append-nil, arith, rules, length-append}
use Rattle.tasks.specs.Records.{blank}
use Rattle.tasks.specs.Threads.{body_of, brought, crew}
use Rattle.tasks.proofs.Crews.{brought-all, brought_more, crew-length, crew-rule, starts-above}
use Rattle.tasks.proofs.parts.Tasks.+add_threads.Goals as goal
use Rattle.tasks.proofs.parts.Tasks.+add_threads.Goals.{then-starts, else-starts}

pub push-requires : goal.push-requires
push-requires t c =
    let own = crew-length (body_of c.args.self.now.records.now c.args.self.now.rows.now) c.args.task in
    omega (arith, own, c.requires)

pub loop-row-init : goal.loop-row-init
loop-row-init t c = search rules

pub add_threads-requires : goal.add_threads-requires
add_threads-requires t c =
    let body = body_of c.args.self.now.records.now c.args.self.now.rows.now in
    let k = c.args.task in
    let ops = c.body_of-body.result.now in
    let i = c.loop-row.row-index in
    let row = get_or ops i blank in
    let left = brought (crew body) k (drop (i + 1) ops) in
    let all = brought (crew body) k ops in
    let here = brought_more (crew body) k ops i blank c.loop-row-test.true true c.if-starts.ensures in
    let size =
    ap length (ap (λ ts. c.loop-row.threads ++ ts) (sym here) ∙ c.loop-row.invariant ∙ ap (λ ts. ts ++ all) c.push.ensures) in
    let above = starts-above k row (sym c.if-starts.ensures) in
    let same = ap (λ xs. length (brought (crew body) k xs)) c.body_of-body.ensures in (
      omega (arith, above),
      omega (
        arith,
        size,
        same,
        crew-length body k,
        c.requires,
        length-append c.loop-row.threads (crew body row.first ++ left),
        length-append (crew body row.first) left,
        length-append (c.args.threads.now ++ k ∷ []) all,
        length-append c.args.threads.now (k ∷ []),
      ),
    )

pub loop-row-preserved : goal.loop-row-preserved
loop-row-preserved t c =
    let body = body_of c.args.self.now.records.now c.args.self.now.rows.now in
    let k = c.args.task in
    let ops = c.body_of-body.result.now in
    let i = c.loop-row.row-index in
    let started : List ℕ = crew body (get_or ops i blank).first in
    let left : List ℕ = brought (crew body) k (drop (i + 1) ops) in
    elim c.if-starts.branch [
      | then-starts w ↦
          ap (λ ts. ts ++ left) w.threads-is
          ∙ ap (λ ts. ts ++ left) w.add_threads.ensures
          ∙ append_assoc c.loop-row.threads started left
          ∙ ap (λ ts. c.loop-row.threads ++ ts) (sym (brought_more (crew body) k ops i blank c.loop-row-test.true true w.if-starts.ensures))
          ∙ c.loop-row.invariant
      | else-starts w ↦
          ap (λ ts. ts ++ left) w.threads-is
          ∙ ap (λ ts. c.loop-row.threads ++ ts) (sym (brought_more (crew body) k ops i blank c.loop-row-test.true false w.if-starts.ensures))
          ∙ c.loop-row.invariant
    ]

pub returns : goal.returns
returns t c =
    let body = body_of c.args.self.now.records.now c.args.self.now.rows.now in
    let k = c.args.task in
    let ops = c.body_of-body.result.now in
    let all : List ℕ = brought (crew body) k ops in
    let none = brought-all (crew body) k ops c.loop-row.row-index c.loop-row-test.false in
    let rule : crew body k ≡ k ∷ all = crew-rule body k ∙ ap (λ xs. k ∷ brought (crew body) k xs) (sym c.body_of-body.ensures) in
    sym (append-nil c.loop-row.threads)
    ∙ ap (λ ts. c.loop-row.threads ++ ts) (sym none)
    ∙ c.loop-row.invariant
    ∙ ap (λ ts. ts ++ all) c.push.ensures
    ∙ append_assoc c.args.threads.now (k ∷ []) all
    ∙ ap (λ ts. c.args.threads.now ++ ts) (sym rule)
