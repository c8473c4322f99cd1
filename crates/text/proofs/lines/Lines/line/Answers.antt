use Rattle.std.proofs.Common.{◌==◌, false, length, sym, ap, ◌∙◌, subst}
use Rattle.std.proofs.lemmas.List.{take_rest}
use Rattle.text.specs.Text.{first_from, LineAt}
use Rattle.text.proofs.Steps.{line_stops, line_end}
use Rattle.text.proofs.lines.Lines.line.Goals as goal

pub returns-in-Some : goal.returns-in-Some
returns-in-Some c =
    line_stops c.args.self.now.text.now c.args.self.now.from c.in-Some.size c.requires
    (ap (first_from 0 (λ b. b == 10)) (sym (take_rest c.args.self.now.text.now c.args.self.now.from)) ∙ sym c.in-Some.ensures)

pub returns-in-None : goal.returns-in-None
returns-in-None c =
    let rest = take_rest c.args.self.now.text.now c.args.self.now.from in
    subst (λ n. LineAt c.args.self.now.text.now c.args.self.now.from (record { place = record { start = c.args.self.now.from; size = n }; ended = false })) (ap length (sym rest))
    (line_end c.args.self.now.text.now c.args.self.now.from c.requires (ap (first_from 0 (λ b. b == 10)) (sym rest) ∙ sym c.in-None.ensures))
