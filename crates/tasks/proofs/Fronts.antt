-- One element more at the front of an array.
use Rattle.std.proofs.Common.{◌≡◌, ℕ, ◌+◌, ◌-◌, ◌<◌, List, drop, set, replicate, sym, ap, ◌∙◌, arith}
use Rattle.std.proofs.lemmas.List.{drop-drop, drop-replicate, drop-set-lt, length-set}
use Rattle.tasks.specs.Fronts.{IsFront}

pub front_more : {A : Type 0} (n : ℕ) (blank : A) (i : ℕ) (xs : List A) (y : A) → i < n → IsFront n blank i xs → IsFront n blank (i + 1) (set xs i y)
front_more n blank i xs y more h =
    let size = length-set xs i y in
    let left : n - i - 1 ≡ n - (i + 1) = omega arith in (
      size ∙ h.0,
      omega (arith, size, h.0, more),
      drop-set-lt (i + 1) xs i y (omega arith)
          ∙ sym (drop-drop 1 i xs) ∙ ap (λ ys. drop 1 ys) h.2 ∙ drop-replicate 1 (n - i) blank ∙ ap (λ k. replicate k blank) left,
    )
