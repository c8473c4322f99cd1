-- Laws of the messages of one channel. Assumes nothing.
use Rattle.std.proofs.Common.{◌≡◌, ℕ, suc, ◌+◌, ◌-◌, ◌<◌, ◌≤◌, Bool, false, cond, eqb, ltb, ◌≢◌, List, [], ◌∷◌, ◌++◌, length, get_or, take, drop, set, map, Some, None, sym, refl, ap, ◌∙◌, ⊎_elim, add-one, arith, rules}
use Rattle.std.proofs.lemmas.List.{append-nil, take-append-drop, take-append-le, take_all, take_more_set, drop_more, map-append, length-map, length-take, length-drop, length-set, length-take-le, get_or-take}
use Rattle.std.proofs.lemmas.List.Edits.{take-paste, length-paste, length-remove}
use Rattle.std.proofs.lemmas.List.Elements.{All-head, All-tail, All-append, All-take, All-drop, filter-append}
use Rattle.std.proofs.lemmas.List.Quantifiers.{position-Some}
use Rattle.std.proofs.lemmas.List.Sums.{length-filter, fails_before_first}
use Rattle.std.proofs.lemmas.Bool.{cond_below, lt-ltb, eq-eqb, ne_eqb, eqb-true, cases_lt}
use lib.Seq.{paste}
use Rattle.std.specs.List.{All, remove, copy_within, filter, count_by, position, position_or_len}
use Rattle.model.specs.Program.{sum}
use Rattle.model.proofs.Sums.{sum_same, sum_change, sum_zero}
use Rattle.mailbox.proofs.Rooms.{free_le, free_more}
use Rattle.mailbox.specs.Contract.{together}
use Rattle.mailbox.specs.Entries.{chosen, listed}
use Rattle.mailbox.specs.PoolLists.{pool_waiting, pool_room, pool_kind}
use Rattle.mailbox.specs.declared.entry.Entry.{Entry}
use Rattle.mailbox.specs.declared.pool.Pool.{Pool}
use Rattle.model.specs.Mailbox.{Put, Take}

none_pass : {X : Type 0} (p : X → Bool) (xs : List X) → All (λ x. p x ≡ false) xs → filter p xs ≡ []
none_pass p [] h = refl
none_pass p (x ∷ xs) h = ap (λ b. cond b (x ∷ filter p xs) (filter p xs)) (All-head (λ x. p x ≡ false) x xs h) ∙ none_pass p xs (All-tail (λ x. p x ≡ false) x xs h)

module _ {T : Type 0} where
  abbrev pub is_of : ℕ → Entry T → Bool
  is_of c e = eqb e.channel c

  abbrev text : Entry T → T
  text e = e.message

  chosen-append : (c : ℕ) (xs ys : List (Entry T)) → chosen c (xs ++ ys) ≡ chosen c xs ++ chosen c ys
  chosen-append c xs ys = ap (map text) (filter-append (is_of c) xs ys) ∙ map-append text (filter (is_of c) xs) (filter (is_of c) ys)

  -- an entry of channel c before others, and one of another channel
  chosen-one : (c : ℕ) (e : Entry T) (es : List (Entry T)) → e.channel ≡ c → chosen c (e ∷ es) ≡ e.message ∷ chosen c es
  chosen-one c e es h = ap (λ b. map text (cond b (e ∷ filter (is_of c) es) (filter (is_of c) es))) (eq-eqb e.channel c h)

  chosen-other : (c : ℕ) (e : Entry T) (es : List (Entry T)) → e.channel ≢ c → chosen c (e ∷ es) ≡ chosen c es
  chosen-other c e es h = ap (λ b. map text (cond b (e ∷ filter (is_of c) es) (filter (is_of c) es))) (ne_eqb e.channel c h)

  -- what the first place of a channel says of its messages
  pub none_chosen : (c : ℕ) (es : List (Entry T)) → None ≡ position (is_of c) es → chosen c es ≡ []
  none_chosen c es h =
      ⊎_elim
      (λ (lt : position_or_len (is_of c) es < length es).
      let e : position (is_of c) es ≡ Some (position_or_len (is_of c) es) = ap (λ b. cond b (Some (position_or_len (is_of c) es)) None) (lt-ltb (position_or_len (is_of c) es) (length es) lt) in
      absurd (search (rules, h ∙ e)))
      (λ (le : length es ≤ position_or_len (is_of c) es). ap (map text) (none_pass (is_of c) es (λ k d lt. fails_before_first (is_of c) es k d (omega arith))))
      (cases_lt (position_or_len (is_of c) es) (length es))

  none_before : (c : ℕ) (es : List (Entry T)) (i : ℕ) → position (is_of c) es ≡ Some i → chosen c (take i es) ≡ []
  none_before c es i h =
      ap (map text) (none_pass (is_of c) (take i es) (λ k e lt.
      let low : k < i = omega (arith, length-take i es) in
      ap (is_of c) (get_or-take i es k e low) ∙ (position-Some (is_of c) es i e h).2 k low))

-- how many entries there are of the channels below n, where each has one
module _ {T : Type 0} where
  sum_one : (ch n : ℕ) (e : Entry T) (es : List (Entry T)) → e.channel ≡ ch → ch < n → sum (λ d. length (chosen d (e ∷ es))) n ≡ sum (λ d. length (chosen d es)) n + 1
  sum_one ch n e es h lt =
      let f : ℕ → ℕ = λ d. length (chosen d es) in
      let g : ℕ → ℕ = λ d. length (chosen d (e ∷ es)) in
      let at : g ch ≡ suc (f ch) = ap length (chosen-one ch e es h) in
      let off : (u : ℕ) → u < n → u ≢ ch → g u ≡ f u = λ u k ne. ap length (chosen-other u e es (λ q. ne (sym q ∙ h))) in
      let s : sum g n + f ch ≡ sum f n + g ch = sum_change f g n ch lt off in
      omega (arith, s, at)

  all-chosen : (n : ℕ) (es : List (Entry T)) → All (λ e. e.channel < n) es → sum (λ d. length (chosen d es)) n ≡ length es
  all-chosen n [] h = sum_zero (λ d. 0) n (λ u k. refl)
  all-chosen n (e ∷ es) h =
      let r = all-chosen n es (All-tail (λ e. e.channel < n) e es h) in
      let o = sum_one e.channel n e es refl (All-head (λ e. e.channel < n) e es h) in
      omega (arith, r, o)

  all-counted : (es : List (Entry T)) → All (λ e. e.channel < 32) es → together (listed es) ≡ length es
  unfolding together
  all-counted es filed =
      sum_same (λ d. length (chosen d es)) (λ d. length (listed es d)) 32 (λ u h. ap length (sym (cond_below u 32 (chosen u es) [] h))) ∙ all-chosen 32 es filed

module _ {T : Type 0} where
  abbrev pub told : ℕ → T → Entry T
  told c m = record { channel = c; message = m }

  joined : (xs : List (Entry T)) (c : ℕ) (m : T) → c < 32 → listed (xs ++ told c m ∷ []) c ≡ listed xs c ++ m ∷ []
  joined xs c m low =
      sym (cond_below c 32 (chosen c (xs ++ told c m ∷ [])) [] low)
      ∙ chosen-append c xs (told c m ∷ [])
      ∙ ap (λ z. chosen c xs ++ z) (chosen-one c (told c m) [] refl)
      ∙ ap (λ z. z ++ m ∷ []) (cond_below c 32 (chosen c xs) [] low)

  joined_others : (xs : List (Entry T)) (c : ℕ) (m : T) (k : ℕ) → k ≢ c → listed (xs ++ told c m ∷ []) k ≡ listed xs k
  joined_others xs c m k ne =
      ap (λ z. cond (ltb k 32) z [])
      (chosen-append k xs (told c m ∷ []) ∙ ap (λ z. chosen k xs ++ z) (chosen-other k (told c m) [] (λ e. ne (sym e))) ∙ append-nil (chosen k xs))

-- A pool of which the first n entries are in use: those after a place move up by one, over the one that stood there.
pub gap_closed : {X : Type 0} (mem moved : List X) (n i : ℕ) → n ≤ length mem → i < n → moved ≡ copy_within (take n mem) (i + 1) (length (take n mem)) i → take (n - 1) (moved ++ drop n mem) ≡ remove (take n mem) i
gap_closed mem moved n i fits lt made =
    let xs = take n mem in
    let s = drop (i + 1) xs in
    let k : ℕ = length xs - (i + 1) in
    let long : length xs ≡ n = length-take-le n mem fits in
    let l : length s ≡ k = length-drop (i + 1) xs in
    let whole = length-paste xs i s k (omega arith) (omega (arith, l)) in
    let at : n - 1 ≡ i + k = omega arith in
    ap (λ z. take (n - 1) (z ++ drop n mem)) made
    ∙ take-append-le (n - 1) (paste xs i s k) (drop n mem) (omega (arith, whole))
    ∙ ap (λ j. take j (paste xs i s k)) at
    ∙ take-paste xs i s k (omega arith) (omega (arith, l))
    ∙ ap (λ z. take i xs ++ z) (take_all k s (omega (arith, l)))
    ∙ ap (λ j. take i xs ++ drop j xs) (add-one i)

pub filed_left : {T : Type 0} (xs : List (Entry T)) (i : ℕ) → All (λ e. e.channel < 32) xs → All (λ e. e.channel < 32) (remove xs i)
filed_left xs i filed =
    All-append (λ e. e.channel < 32) (take i xs) (drop (suc i) xs) (All-take (λ e. e.channel < 32) i xs filed) (All-drop (λ e. e.channel < 32) (suc i) xs filed)

-- the first entry of channel c, which leaves
module _ {T : Type 0} (xs : List (Entry T)) (i c : ℕ) (d : Entry T) (first : Some i ≡ position (is_of c) xs) where
  abbrev gone : Entry T
  gone = get_or xs i d

  abbrev rest : List (Entry T)
  rest = drop (suc i) xs

  first_within : i < length xs
  first_within = (position-Some (is_of c) xs i d (sym first)).0

  of_it : gone.channel ≡ c
  of_it = eqb-true gone.channel c (position-Some (is_of c) xs i d (sym first)).1

  whole : xs ≡ take i xs ++ (gone ∷ rest)
  whole = sym (take-append-drop i xs) ∙ ap (λ z. take i xs ++ z) (drop_more xs i d first_within ∙ ap (λ j. gone ∷ drop j xs) (add-one i))

  left : c < 32 → listed xs c ≡ gone.message ∷ listed (remove xs i) c
  left low =
      sym (cond_below c 32 (chosen c xs) [] low)
      ∙ ap (chosen c) whole
      ∙ chosen-append c (take i xs) (gone ∷ rest)
      ∙ ap (λ z. z ++ chosen c (gone ∷ rest)) (none_before c xs i (sym first))
      ∙ chosen-one c gone rest of_it
      ∙ ap (λ z. gone.message ∷ (z ++ chosen c rest)) (sym (none_before c xs i (sym first)))
      ∙ ap (λ z. gone.message ∷ z) (sym (chosen-append c (take i xs) rest) ∙ cond_below c 32 (chosen c (remove xs i)) [] low)

  left_others : (k : ℕ) → k ≢ c → listed (remove xs i) k ≡ listed xs k
  left_others k ne =
      ap (λ z. cond (ltb k 32) z [])
      (chosen-append k (take i xs) rest
      ∙ ap (λ z. chosen k (take i xs) ++ z) (sym (chosen-other k gone rest (λ e. ne (sym e ∙ of_it))))
      ∙ sym (ap (chosen k) whole ∙ chosen-append k (take i xs) (gone ∷ rest)))

module _ {T : Type 0} (s : Pool T) where
  abbrev entries : List (Entry T)
  entries = take s.count s.memory.now

  counted : together (listed entries) ≡ s.count
  counted = all-counted entries s.filed ∙ length-take-le s.count s.memory.now s.fits

  pub place_within : (c i : ℕ) (d : Entry T) → Some i ≡ position (is_of c) entries → i < s.count
  place_within c i d first =
      let l = length-take-le s.count s.memory.now s.fits in
      let inside = first_within entries i c d first in
      omega (arith, l, inside)

  pub count_is : (c : ℕ) → c < 32 → length (pool_waiting s c) ≡ count_by (λ e. eqb e.channel c) (take s.count s.memory.now)
  count_is c low = ap length (sym (cond_below c 32 (chosen c entries) [] low)) ∙ length-map (filter (is_of c) entries) text ∙ length-filter (is_of c) entries

  pub room_is : (c : ℕ) → c < 32 → pool_room s c ≡ length s.memory.now - s.count
  room_is c low = sym (cond_below c 32 (length s.memory.now - together (listed entries)) 0 low) ∙ ap (λ w. length s.memory.now - w) counted

  pub room_at_first : (c : ℕ) → c < 32 → s.count ≡ 0 → pool_room s c ≡ length s.memory.now
  room_at_first c low none = room_is c low ∙ omega (arith, none)

-- what a pool is once a message of channel c has joined or left
module _ {T : Type 0} (s t : Pool T) (c : ℕ) (low : c < 32) where
  pub put_made : (m : T) → s.count < length s.memory.now → t.memory.now ≡ set s.memory.now s.count (told c m) → t.count ≡ s.count + 1 → Put pool_kind s c m t
  put_made m free memory count =
      let more : entries t ≡ entries s ++ told c m ∷ [] = ap (λ n. take n t.memory.now) count ∙ ap (take (s.count + 1)) memory ∙ take_more_set s.memory.now s.count (told c m) free in
      let before = counted s in
      let after = counted t in
      record {
        joined = ap (λ z. listed z c) more ∙ joined (entries s) c m low;
        others = λ k ne. ap (λ z. listed z k) more ∙ joined_others (entries s) c m k ne;
        roomy = free_le (length s.memory.now) (length t.memory.now) _ _ (ap length memory ∙ length-set s.memory.now s.count (told c m)) (omega (arith, before, after, count));
      }

  pub take_made : (i : ℕ) (d : Entry T) → Some i ≡ position (is_of c) (entries s) → entries t ≡ remove (entries s) i → length t.memory.now ≡ length s.memory.now → Take pool_kind s c (get_or s.memory.now i d).message t
  take_made i d first closed same =
      let before = counted s in
      let after = counted t in
      let inside = place_within s c i d first in
      let l = length-take-le s.count s.memory.now s.fits in
      let l' = length-take-le t.count t.memory.now t.fits in
      let fewer = length-remove (entries s) i (omega (arith, l, inside)) in
      let e = ap length closed in
      let m : (get_or (entries s) i d).message ≡ (get_or s.memory.now i d).message = ap (λ e. e.message) (get_or-take s.count s.memory.now i d inside) in
      record {
        removed = left (entries s) i c d first low ∙ ap (λ z. z ∷ listed (remove (entries s) i) c) m ∙ ap (λ z. (get_or s.memory.now i d).message ∷ listed z c) (sym closed);
        others = λ k ne. ap (λ z. listed z k) closed ∙ left_others (entries s) i c d first k ne;
        roomy = free_more (length s.memory.now) (length t.memory.now) _ _ same (omega (arith, before, after, l, l', fewer, e));
      }
