-- How far an account can go. Assumes nothing.
use Rattle.std.proofs.Common.{◌≡◌, ℕ, zero, suc, ◌+◌, ◌*◌, ◌<◌, ◌≤◌, Bool, List, [], ◌∷◌, length, ℤ, sym, refl, ap, ◌∙◌, subst, suc-le-suc, mul-le-mul_right, arith}
use native.Mathlib.Decide.{ℕ_discrete}
use Rattle.std.proofs.lemmas.Int.{ints}
use Rattle.model.specs.Accounts.{Near, Bounded, AccountLaw}
use Rattle.model.specs.Machine.{Thread}
use Rattle.model.specs.Program.{Op, send, receive, acquire, release, start, Account, Program, after, same}
use Rattle.model.specs.Rules.{paid, account_at}
use Rattle.model.proofs.Frames.{frame}
use Rattle.model.proofs.Histories.{inv}
use Rattle.model.proofs.Steps.{Stand, sleeps, runs, rests}
use Rattle.model.proofs.Sums.{same_eq, same-other}
use Rattle.model.proofs.Tools.{At, Frame}
use Rattle.model.proofs.Walks.{after-end}

same_small : (a b : ℕ) → same a b ≤ 1
same_small a b = elim (ℕ_discrete a b) [ yes e ↦ omega (arith, same_eq a b e) | no ne ↦ omega (arith, same-other a b ne) ]

pub wider : (m n : ℕ) (z : ℤ) → m ≤ n → Near m z → Near n z
wider m n z le h = (let l = h.0 in let r = h.1 in (omega (arith, ints), omega (arith, ints)))

-- Where a start of a thread starts a thread.
module _ {Level Message : Type 0} (P : Program Level Message) (starts : (t p u : ℕ) → t < P.threads → At (P.ops t) p (start u) → u < P.threads) (most : ℕ) (bounded : Bounded P most) where
  -- what the operation starts is bounded
  Small : Op Message → Type 0
  Small o = (u : ℕ) → o ≡ start u → u < P.threads

  one-step : (o : Op Message) (a : Account) (x n : ℕ) → Small o → Near n (a x) → Near (n + most) (paid P o a x)
  unfolding Small
  one-step (send c m) a x n _ h =
      let s = same_small x c in let k = bounded.carried c x in let one = bounded.some_count in
      (let l = h.0 in let r = h.1 in (omega (arith, ints), omega (arith, ints)))
  one-step (receive c) a x n _ h =
      let s = same_small x c in let k = bounded.carried c x in let one = bounded.some_count in
      (let l = h.0 in let r = h.1 in (omega (arith, ints), omega (arith, ints)))
  one-step (acquire l) a x n _ h = (let l = h.0 in let r = h.1 in (omega (arith, ints), omega (arith, ints)))
  one-step (release l) a x n _ h = (let l = h.0 in let r = h.1 in (omega (arith, ints), omega (arith, ints)))
  one-step (start u) a x n small h =
      let k = bounded.opened u x (small u refl) in
      (let l = h.0 in let r = h.1 in let kl = k.0 in let kr = k.1 in (omega (arith, ints), omega (arith, ints)))

  steps : (xs : List (Op Message)) (p n : ℕ) (a : Account) (x : ℕ) → ((q : ℕ) (o : Op Message) → At xs q o → Small o) → Near n (a x) → Near (n + p * most) (after (paid P) xs p a x)
  steps xs zero n a x _ h = wider n (n + 0 * most) (a x) (omega arith) h
  steps [] (suc p) n a x _ h = wider n (n + suc p * most) (a x) (omega arith) h
  steps (o ∷ xs) (suc p) n a x small h =
      wider (n + most + p * most) (n + suc p * most) _ (omega arith) (steps xs p (n + most) (paid P o a) x (λ q y b. small (suc q) y b) (one-step o a x n (small 0 o refl) h))

  -- after p operations
  pub walk_near : (t p x : ℕ) → t < P.threads → Near (suc p * most) (account_at P t p x)
  unfolding Small
  walk_near t p x h = wider (most + p * most) (suc p * most) _ (omega arith)
      (steps (P.ops t) p most (P.opening t) x (λ q o a u e. starts t q u h (subst (At (P.ops t) q) e a)) (bounded.opened t x h))

  walk_end : (t x : ℕ) → t < P.threads → Near (suc (length (P.ops t)) * most) (account_at P t (suc (length (P.ops t))) x)
  walk_end t x h = subst (λ (a : Account). Near (suc (length (P.ops t)) * most) (a x)) (sym (after-end (paid P) (P.ops t) (P.opening t))) (walk_near t (length (P.ops t)) x h)

  pub stand_near : (below : Level → Level → Bool) (F : Frame P) (t : ℕ) (h : Thread Message) (wp x : ℕ) → t < P.threads → Stand below P F t h wp → Near (suc (length (P.ops t)) * most) (h.account x)
  stand_near below F t h wp x k (sleeps s z) = subst (Near (suc (length (P.ops t)) * most)) (sym (z.account x)) (omega (arith, ints), omega (arith, ints))
  stand_near below F t h wp x k (runs s l z) =
      subst (Near (suc (length (P.ops t)) * most)) (sym (z.account x)) (wider (suc h.place * most) (suc (length (P.ops t)) * most) _ (mul-le-mul_right most (suc-le-suc l)) (walk_near t h.place x k))
  stand_near below F t h wp x k (rests s l d z) =
      subst (Near (suc (length (P.ops t)) * most)) (sym (z.account x ∙ ap (λ p. account_at P t p x) l)) (walk_end t x k)

pub account_law : {Level Message Mailbox : Type 0} → AccountLaw Level Message Mailbox
account_law P formed most bounded =
    let F = frame P formed in
    let starts : (t p u : ℕ) → t < P.threads → At (P.ops t) p (start u) → u < P.threads = λ t p u h a. (F.once t p u h a).1 in
    record {
      walks = walk_near P starts most bounded;
      runs = λ below K m log h t x l. stand_near P starts most bounded below F t (m.thread t) _ x l ((inv below P F K m log h).stand t l);
    }
