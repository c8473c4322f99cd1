use Rattle.std.proofs.Common.{List, ℕ, ◌≡◌, ◌+◌, ◌<◌, ◌≤◌, true, false, [], ◌∷◌, ◌++◌, length, get_or, take, is_ok, Decides, sym, ap, ◌∙◌, subst, arith, rules, tests}
use Rattle.std.proofs.lemmas.List.{take_more, take_rest, length-take-le, length_push}
use Rattle.tasks.specs.Records.{View, blank, view_of}
use Rattle.records.specs.declared.record.Record.{Record}
use Rattle.records.specs.Order.{Written}
use Rattle.text.specs.declared.place.Line.{Line}
use Rattle.text.specs.Left.{lines_left}
use Rattle.text.specs.Text.{lines}
use Rattle.reader.specs.Lines.{and_then}
use Rattle.reader.specs.Reading.{Shows, ended, read_lines, read_rest}
use Rattle.reader.proofs.Next.{rest_more}
use Rattle.reader.proofs.Sheets.{decides_no, decides_rest, ended-fault, ended_ok, lines-ended, shown-here}
use Rattle.reader.proofs.sheet.shows.Given as given
use Rattle.reader.proofs.sheet.shows.Goals as goal
use Rattle.reader.proofs.sheet.shows.Goals.{After-finish, In-Ok}

-- how far the loop has come, in the words of the count that the lists answer
at : (o : Written) (text : List ℕ) (lists : View) (sheet : List Record) (left : List Line) (count : ℕ) → count ≡ lists.lines
    → (read_rest o text [] (lines text) ≡ read_rest o text (take lists.lines sheet) left) × (lists ≡ view_of (take lists.lines sheet))
    → (read_rest o text [] (lines text) ≡ read_rest o text (take count sheet) left) × (lists ≡ view_of (take count sheet))
at o text lists sheet left count e inv = subst (λ n. (read_rest o text [] (lines text) ≡ read_rest o text (take n sheet) left) × (lists ≡ view_of (take n sheet))) (sym e) inv

-- a record was read: the lines after this one go on from it
goes_on : (g : given.Over) (c : In-Ok g)
    → read_rest g.O.WrittenOrder.written c.args.text.now [] (lines c.args.text.now)
    ≡ read_rest g.O.WrittenOrder.written c.args.text.now (take c.len-count.result c.args.sheet.now ++ c.in-Ok.row ∷ []) (lines_left c.next.new.self)
goes_on g c =
    let o = g.O.WrittenOrder.written in
    let text = c.args.text.now in
    let inv = at o text c.loop-line.lists c.args.sheet.now (lines_left c.loop-line.line-iterator) c.len-count.result c.len-count.ensures.count c.loop-line.invariant in
    inv.0 ∙ rest_more o text (take c.len-count.result c.args.sheet.now) c.in-Some.line _ _ c.in-Some.ensures.steps c.in-Ok.row (sym c.in-Ok.ensures.read)

-- the record that was read is that of the sheet
pub loop-line-preserved : goal.loop-line-preserved
loop-line-preserved g c =
    let o = g.O.WrittenOrder.written in
    let text = c.args.text.now in
    let sheet = c.args.sheet.now in
    let count = c.len-count.result in
    let a = (goal.at.loop-line-preserved g c).In-Ok in
    let step = c.in-Ok.ensures in
    let next = c.read_step.new.lists in
    let within : count ≤ length sheet = omega (arith, c.len-count.ensures.few, c.requires) in
    let few : count < 800 = omega (arith, step.room, length-take-le count sheet within) in
    let less : count < length sheet = omega (arith, few, c.requires) in
    let same : c.in-Ok.row ≡ get_or sheet count blank = search (rules, tests) in
    let more : take count sheet ++ c.in-Ok.row ∷ [] ≡ take (count + 1) sheet = ap (λ r. take count sheet ++ r ∷ []) same ∙ sym (take_more sheet count blank less) in
    let one-more : count + 1 ≡ next.lines = omega (arith, length-take-le count sheet within, length_push (take count sheet) c.in-Ok.row, ap (λ (v : View). v.lines) step.listed) in
    subst (λ n. (read_rest o text [] (lines text) ≡ read_rest o text (take n sheet) (lines_left c.next.new.self)) × (next ≡ view_of (take n sheet))) one-more (
      goes_on g a ∙ ap (λ rs. read_rest o text rs (lines_left c.next.new.self)) more,
      step.listed ∙ ap view_of more,
    )

pub returns-in_default : goal.returns-in_default
returns-in_default g c =
    let o = g.O.WrittenOrder.written in
    let text = c.args.text.now in
    let sheet = c.args.sheet.now in
    let count = c.len-count.result in
    let row = c.in-Ok.row in
    let size = length-take-le count sheet (omega (arith, c.len-count.ensures.few, c.requires)) in
    let after = lines_left c.next.new.self in
    let whole : read_lines o text ≡ and_then (read_rest o text (take count sheet ++ row ∷ []) after) ended = ap (λ v. and_then v ended) (goes_on g (goal.at.returns-in_default g c).In-Ok) in
    let differ : row ≡ get_or sheet count blank → ⊥ = search rules in
    decides_no (λ shown-sheet.
    let here = shown-here o text after (take count sheet) row blank sheet _ (sym whole) shown-sheet in
    differ (sym (ap (λ n. get_or sheet n blank) (sym size) ∙ here)))

-- after all lines
whole : (g : given.Over) (c : After-finish g) → read_lines g.O.WrittenOrder.written c.args.text.now ≡ ended (take c.len-all.result c.args.sheet.now)
whole g c =
    let o = g.O.WrittenOrder.written in
    let text = c.args.text.now in
    let rs = take c.len-all.result c.args.sheet.now in
    let inv = at o text c.loop-line.lists c.args.sheet.now (lines_left c.loop-line.line-iterator) c.len-all.result c.len-all.ensures.count c.loop-line.invariant in
    lines-ended o text rs (inv.0 ∙ ap (read_rest o text rs) c.in-None.ensures.steps.0)

pub returns-then-is_ok : goal.returns-then-is_ok
returns-then-is_ok g c =
    let sheet = c.args.sheet.now in
    let count = c.len-all.result in
    let a = (goal.at.returns-then-is_ok g c).After-finish in
    let ok : is_ok c.finish.result ≡ true = sym c.is_ok.ensures.value ∙ c.if-is_ok.true in
    decides_rest sheet _ count c.is_blank.result _ (omega (arith, c.len-all.ensures.few, c.requires)) (whole g a ∙ ended_ok (take count sheet) c.finish.result c.finish.ensures ok)
    (take_rest sheet count) c.is_blank.ensures

pub returns-else-is_ok : goal.returns-else-is_ok
returns-else-is_ok g c =
    let sheet = c.args.sheet.now in
    let rs = take c.len-all.result sheet in
    let a = (goal.at.returns-else-is_ok g c).After-finish in
    let bad : is_ok c.finish.result ≡ false = sym c.is_ok.ensures.value ∙ c.if-is_ok.false in
    let no-sheet : Shows (read_lines g.O.WrittenOrder.written c.args.text.now) sheet → ⊥ =
    λ shown. ended-fault rs c.finish.result sheet c.finish.ensures bad (subst (λ v. Shows v sheet) (whole g a) shown) in
    subst (λ b. Decides b (Shows (read_lines g.O.WrittenOrder.written c.args.text.now) sheet)) (sym c.if-is_ok.false) (decides_no no-sheet)
