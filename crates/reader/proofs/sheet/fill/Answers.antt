use Rattle.std.proofs.Common.{List, ℕ, ◌≡◌, ◌+◌, ◌-◌, ◌<◌, ◌≤◌, [], length, take, drop, set, replicate, sym, ap, ◌∙◌, subst, arith, length-set}
use Rattle.std.proofs.lemmas.List.{take_more_set, length-take-le, length_push}
use Rattle.tasks.specs.Records.{View, blank, view_of}
use Rattle.records.specs.declared.record.Record.{Record}
use Rattle.records.specs.Order.{Written}
use Rattle.text.specs.declared.place.Line.{Line}
use Rattle.text.specs.Left.{lines_left}
use Rattle.text.specs.Text.{lines}
use Rattle.reader.specs.Reading.{read_rest, sheet_after, verdict}
use Rattle.reader.proofs.Next.{rest_more}
use Rattle.reader.proofs.Sheets.{blank_more, ended_ok, lines-ended, sheet_is, verdict-ended}
use Rattle.reader.proofs.sheet.fill.Goals as goal

-- how far the loop has come, in the words of the count that the lists answer
at : (o : Written) (text : List ℕ) (lists : View) (sheet : List Record) (left : List Line) (room count : ℕ) → count ≡ lists.lines
    → (length sheet ≡ room) × (read_rest o text [] (lines text) ≡ read_rest o text (take lists.lines sheet) left) × (lists ≡ view_of (take lists.lines sheet)) × (drop lists.lines sheet ≡ replicate (room - lists.lines) blank)
    → (length sheet ≡ room) × (read_rest o text [] (lines text) ≡ read_rest o text (take count sheet) left) × (lists ≡ view_of (take count sheet)) × (drop count sheet ≡ replicate (room - count) blank)
at o text lists sheet left room count e inv =
    subst (λ n. (length sheet ≡ room) × (read_rest o text [] (lines text) ≡ read_rest o text (take n sheet) left) × (lists ≡ view_of (take n sheet)) × (drop n sheet ≡ replicate (room - n) blank)) (sym e) inv

pub loop-line-preserved : goal.loop-line-preserved
loop-line-preserved g c =
    let o = g.O.WrittenOrder.written in
    let text = c.args.text.now in
    let sheet = c.loop-line.sheet in
    let count = c.len-count.result in
    let row = c.in_ok-sheet.field-0 in
    let room = length c.args.sheet.now in
    let inv = at o text c.loop-line.lists sheet (lines_left c.loop-line.line-iterator) room count c.len-count.ensures.count c.loop-line.invariant in
    let step = c.in_ok-sheet.ensures in
    let within : count ≤ length sheet = omega (arith, inv.0, c.len-count.ensures.few, c.requires.1) in
    let few : count < 800 = omega (arith, step.room, length-take-le count sheet within) in
    let less : count < length sheet = omega (arith, inv.0, few, c.requires.1) in
    let more = take_more_set sheet count row less in
    let wrote = set sheet count row in
    let next = c.read_step.new.lists in
    let one-more : count + 1 ≡ next.lines = omega (arith, length-take-le count sheet within, length_push (take count sheet) row, ap (λ (v : View). v.lines) step.listed) in
    subst (λ n. (length wrote ≡ room) × (read_rest o text [] (lines text) ≡ read_rest o text (take n wrote) (lines_left c.next.new.self)) × (next ≡ view_of (take n wrote)) × (drop n wrote ≡ replicate (room - n) blank)) one-more (
      length-set sheet count row ∙ inv.0,
      inv.1 ∙ rest_more o text (take count sheet) c.in-Some.line _ _ c.in-Some.ensures.steps row (sym step.read)
          ∙ ap (λ rs. read_rest o text rs (lines_left c.next.new.self)) (sym more),
      step.listed ∙ ap view_of (sym more),
      blank_more sheet count room inv.3 row,
    )

pub returns : goal.returns
returns g c =
    let o = g.O.WrittenOrder.written in
    let text = c.args.text.now in
    let room = length c.args.sheet.now in
    let sheet = c.loop-line.sheet in
    let count = c.len-all.result in
    let inv = at o text c.loop-line.lists sheet (lines_left c.loop-line.line-iterator) room count c.len-all.ensures.count c.loop-line.invariant in
    let rs = take count sheet in
    let whole = lines-ended o text rs (inv.1 ∙ ap (read_rest o text rs) c.in-None.ensures.steps.0) in
    record {
      answer = sym (ap verdict whole ∙ verdict-ended rs c.finish.result c.finish.ensures);
      written = λ ok. sheet_is sheet count room inv.3 (omega (arith, inv.0, c.len-all.ensures.few, c.requires.1)) ∙ sym (ap (sheet_after room) (whole ∙ ended_ok rs c.finish.result c.finish.ensures ok));
    }
