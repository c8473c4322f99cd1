-- What is legal breaks no rule, and what breaks none is legal. Assumes nothing.
use Rattle.std.proofs.Common.{◌≡◌, ℕ, zero, suc, ◌≤◌, Bool, not, T, List, [], ◌∷◌, length, pos, Some, None, Option, sym, refl, ap, ◌∙◌, subst, inl, inr, arith}
use lib.Signed.{le_z}
use Rattle.std.proofs.lemmas.Bool.{not-true, and_parts, or_cases, cases_Bool, and_from, or_left, or_right, not_from_false, cond-true, cond-false, true_from_ne_false}
use Rattle.std.proofs.lemmas.Float.{T_from_true}
use Rattle.model.specs.Program.{Op, send, receive, acquire, release, start, Account, Locks, Program, Step, operation, closing, step_at}
use Rattle.model.specs.Rules.{Offence, first_number_from, breaks, or_else, owes, busy, account_at, locks_at, unsettled, bars, breach, offence, Cleared}
use Rattle.model.proofs.Searches.{not_none, is_true, false_is, first-none, none_first}
use Rattle.model.proofs.Tools.{At, Busy, Settled, Under, Permitted, Walkable}
use Rattle.model.proofs.Walks.{at-below}

breaks-none : (n : ℕ) (r : Option ℕ) → breaks n r ≡ None → r ≡ None
breaks-none n None e = refl
breaks-none n (Some x) e = not_none e

neither : (a b : Option Offence) → or_else a b ≡ None → (a ≡ None) × (b ≡ None)
neither None b e = (refl, e)
neither (Some x) b e = not_none e

-- steps of a list of operations by number
module _ {Message : Type 0} where
  abbrev is-closing : Step Message → ℕ
  is-closing (operation o) = 0
  is-closing closing = 1

  op_or : Op Message → Step Message → Op Message
  op_or d (operation o) = o
  op_or d closing = d

  pub step_op : (xs : List (Op Message)) (p : ℕ) (o : Op Message) → step_at xs p ≡ operation o → At xs p o
  unfolding op_or
  step_op [] p o e = let n : ◌≡◌ {A = ℕ} 1 0 = ap is-closing e in absurd (omega arith)
  step_op (x ∷ xs) zero o e = ap (op_or x) e
  step_op (x ∷ xs) (suc p) o e = step_op xs p o e

  pub op-step : (xs : List (Op Message)) (p : ℕ) (o : Op Message) → At xs p o → step_at xs p ≡ operation o
  op-step [] p o a = absurd a
  op-step (x ∷ xs) zero o a = ap operation a
  op-step (x ∷ xs) (suc p) o a = op-step xs p o a

  pub step_end : (xs : List (Op Message)) (p : ℕ) → step_at xs p ≡ closing → length xs ≤ p
  step_end [] p e = omega arith
  step_end (x ∷ xs) zero e = let n : ◌≡◌ {A = ℕ} 0 1 = ap is-closing e in absurd (omega arith)
  step_end (x ∷ xs) (suc p) e = omega (arith, step_end xs p e)

  pub end_step : (xs : List (Op Message)) (p : ℕ) → length xs ≤ p → step_at xs p ≡ closing
  end_step [] p h = refl
  end_step (x ∷ xs) zero h = absurd (omega arith)
  end_step (x ∷ xs) (suc p) h = end_step xs p (omega arith)

module _ {Level Message : Type 0} (P : Program Level Message) where
  -- the test and the fact that an object is owed or held
  pub busy-fact : (a : Account) (h : Locks) (x : ℕ) → T (busy a h x) → Busy a h x
  busy-fact a h x t = elim (or_cases (owes a x) (h x) (is_true _ t)) [ inl e ↦ inl (record { lt = T_from_true _ e }) | inr e ↦ inr (T_from_true _ e) ]

  pub fact-busy : (a : Account) (h : Locks) (x : ℕ) → Busy a h x → T (busy a h x)
  fact-busy a h x (inl owed) = T_from_true _ (or_left (owes a x) (h x) (is_true _ owed.lt))
  fact-busy a h x (inr held) = T_from_true _ (or_right (owes a x) (h x) (is_true _ held))

  pub settled-none : (a : Account) (h : Locks) → Settled P a h → unsettled P a h ≡ None
  settled-none a h s =
      ap (λ (r : Option ℕ). or_else (breaks 25 r) (breaks 26 (first_number_from h 0 P.objects))) (first-none (owes a) 0 P.objects (λ x l m t. s x (omega arith) (inl (record { lt = t }))))
      ∙ ap (breaks 26) (first-none h 0 P.objects (λ x l m t. s x (omega arith) (inr t)))

  pub none-settled : (a : Account) (h : Locks) → unsettled P a h ≡ None → Settled P a h
  none-settled a h e x l (inl owed) = none_first (owes a) 0 P.objects (breaks-none 25 _ (neither _ _ e).0) x (omega arith) (omega arith) owed.lt
  none-settled a h e x l (inr held) = none_first h 0 P.objects (breaks-none 26 _ (neither _ _ e).1) x (omega arith) (omega arith) held

  module _ (below : Level → Level → Bool) where
    under_first : (o : ℕ) (a : Account) (h : Locks) → Under P below o a h → first_number_from (bars P below o a h) 0 P.objects ≡ None
    under_first o a h u = first-none (bars P below o a h) 0 P.objects (λ x l m t.
        let q = and_parts (busy a h x) (not (below (P.level x) (P.level o))) (is_true _ t) in
        false_is _ (not-true _ q.1) (u x (omega arith) (busy-fact a h x (T_from_true _ q.0))))

    first_under : (o : ℕ) (a : Account) (h : Locks) → first_number_from (bars P below o a h) 0 P.objects ≡ None → Under P below o a h
    first_under o a h e x l b = T_from_true _ (true_from_ne_false _ (λ f.
        none_first (bars P below o a h) 0 P.objects e x (omega arith) (omega arith)
        (T_from_true _ (and_from (busy a h x) (not (below (P.level x) (P.level o))) (is_true _ (fact-busy a h x b)) (not_from_false _ f)))))

    pub legal-none : (o : Op Message) (a : Account) (h : Locks) → Permitted P below o a h → breach P below o a h ≡ None
    legal-none (send c m) a h l = refl
    legal-none (receive c) a h l =
        cond-true _ _ (Some (record { number = 21; object = c })) (is_true _ l.0.le)
        ∙ ap (breaks 22) (under_first c a h l.1)
    legal-none (acquire k) a h l = ap (breaks 23) (under_first k a h l)
    legal-none (release k) a h l = cond-true (h k) None _ (is_true _ l)
    legal-none (start u) a h l = refl

    pub none-legal : (o : Op Message) (a : Account) (h : Locks) → breach P below o a h ≡ None → Permitted P below o a h
    none-legal (send c m) a h e = tt
    none-legal (receive c) a h e = elim (cases_Bool (le_z (pos 1) (a c))) [
      | inl q ↦ (record { le = T_from_true _ q }, first_under c a h (breaks-none 22 _ (sym (cond-true _ _ _ q) ∙ e)))
      | inr q ↦ not_none (sym (cond-false _ _ _ q) ∙ e)
    ]
    none-legal (acquire k) a h e = first_under k a h (breaks-none 23 _ e)
    none-legal (release k) a h e = T_from_true _ (true_from_ne_false _ (λ q. not_none (sym (cond-false _ _ _ q) ∙ e)))
    none-legal (start u) a h e = tt

    -- Cleared, by operations and closings.
    pub cleared_walkable : Cleared P below → Walkable P below
    cleared_walkable c = record {
      operations = λ t p o h a. none-legal o _ _ (subst (λ (s : Step Message). offence P below s (account_at P t p) (locks_at P t p) ≡ None) (op-step (P.ops t) p o a)
          (c t p h (let l = at-below (P.ops t) p o a in omega arith)));
      closings = λ t h. none-settled _ _ (subst (λ (s : Step Message). offence P below s (account_at P t (length (P.ops t))) (locks_at P t (length (P.ops t))) ≡ None)
          (end_step (P.ops t) (length (P.ops t)) (omega arith)) (c t (length (P.ops t)) h (omega arith)));
    }

    pub walkable_cleared : Walkable P below → Cleared P below
    walkable_cleared c t p h l = go (step_at (P.ops t) p) refl
      where
        go : (s : Step Message) → step_at (P.ops t) p ≡ s → offence P below s (account_at P t p) (locks_at P t p) ≡ None
        go (operation o) e = legal-none o _ _ (c.operations t p o h (step_op (P.ops t) p o e))
        go closing e = settled-none _ _
            (let q : length (P.ops t) ≡ p = omega (arith, step_end (P.ops t) p e) in subst (λ (n : ℕ). Settled P (account_at P t n) (locks_at P t n)) q (c.closings t h))
