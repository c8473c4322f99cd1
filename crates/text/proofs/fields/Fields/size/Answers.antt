use Rattle.std.proofs.Common.{◌≡◌, ◌+◌, ◌≤◌, ◌==◌, ◌∷◌, length, ap, ◌∙◌, subst, sym}
use Rattle.std.proofs.lemmas.List.{take_rest}
use Rattle.std.specs.Option.{unwrap_or}
use Rattle.text.specs.Text.{byte, fields_from, first_from}
use Rattle.text.proofs.Steps.{open_field, field_next}
use Rattle.text.proofs.fields.Fields.size.Goals as goal

pub returns : goal.returns
returns c =
    let base = c.args.self.now.base in
    let line = c.args.self.now.line.now in
    let from = c.args.self.now.from in
    let rest = take_rest line from in
    let next = field_next base line from c.first_of.result c.requires (c.first_of.ensures ∙ ap (first_from 0 (λ b. b == byte ",")) rest) in
    let size = c.unwrap_or.ensures ∙ ap (λ xs. unwrap_or c.first_of.result (length xs)) rest in
    let both = subst (λ n. (fields_from base line from ≡ open_field base from n ∷ fields_from base line (from + n + 1)) × (from + n ≤ length line)) (sym size) next in
    record { cuts = both.0; inside = both.1 }
