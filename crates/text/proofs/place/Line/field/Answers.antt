use Rattle.std.proofs.Common.{◌≡◌, Some, None, Option, refl, ap, ◌∙◌}
use Rattle.std.proofs.lemmas.Iterator.Consumers.{YieldsList-from_first, nth_from_yields_List}
use Rattle.text.specs.Left.{fields_left}
use Rattle.std.proofs.lemmas.Option.{unwrap_or-slice_get}
use Rattle.std.specs.Option.{option_map, unwrap_or}
use Rattle.text.specs.declared.place.Place.{Place}
use Rattle.text.specs.Text.{fields, nowhere}
use Rattle.text.proofs.place.Line.field.Goals as goal

named_same : (o : Option Place) → o ≡ option_map (λ x. x) o
named_same None = refl
named_same (Some p) = refl

pub returns : goal.returns
returns c =
    let item = nth_from_yields_List c.nth.result c.nth.new.self c.args.number c.nth.ensures.ran (YieldsList-from_first (λ x. x) fields_left (fields c.args.text.now c.args.self) c.fields.ensures) in
    c.unwrap_or.ensures ∙ ap (λ o. unwrap_or o nowhere) (named_same c.nth.result ∙ item) ∙ unwrap_or-slice_get (fields c.args.text.now c.args.self) c.args.number nowhere
