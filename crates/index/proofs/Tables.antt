-- The records gone through from the last one up.
use Rattle.std.proofs.Common.{◌≡◌, ℕ, Bool, true, false, cond, eqb, List, [], ◌∷◌, ◌++◌, length, drop, ℤ, pos, refl, sym, ap, ◌∙◌, append_assoc}
use Rattle.std.proofs.Math.Seq.{drop-append_seam}
use Rattle.records.specs.declared.record.Record.{Record}
use Rattle.index.specs.Amounts.{carried_by, carries_of, counted_on, natural}

pos_cond : (b : Bool) (m n : ℕ) → cond b (pos m) (pos n) ≡ pos (cond b m n)
pos_cond true m n = refl
pos_cond false m n = refl

-- one record fewer is left
module _ (all left more gone : List Record) (r : Record) (one : more ≡ left ++ r ∷ []) (whole : more ++ gone ≡ all) where
  seam : left ++ r ∷ gone ≡ all
  seam = sym (append_assoc left (r ∷ []) gone) ∙ ap (λ xs. xs ++ gone) (sym one) ∙ whole

  gone_more : drop (length left) all ≡ r ∷ gone
  gone_more = ap (drop (length left)) (sym seam) ∙ drop-append_seam left (r ∷ gone)

  pub left_less : left ++ drop (length left) all ≡ all
  left_less = ap (λ xs. left ++ xs) gone_more ∙ seam

  pub carried_more : (x y : ℕ) (old new : ℤ) → old ≡ pos (carried_by gone x y) → new ≡ cond (carries_of r x y) (pos (natural r.number)) old
      → new ≡ pos (carried_by (drop (length left) all) x y)
  carried_more x y old new was is =
      is ∙ ap (λ z. cond (carries_of r x y) (pos (natural r.number)) z) was ∙ pos_cond (carries_of r x y) (natural r.number) (carried_by gone x y)
      ∙ ap (λ xs. pos (carried_by xs x y)) (sym gone_more)

  pub counted_more : (x : ℕ) (old new : ℤ) → old ≡ counted_on gone x → new ≡ cond (eqb r.first x) r.number old → new ≡ counted_on (drop (length left) all) x
  counted_more x old new was is = is ∙ ap (λ z. cond (eqb r.first x) r.number z) was ∙ ap (λ xs. counted_on xs x) (sym gone_more)
