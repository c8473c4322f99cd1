-- Laws of lanes and rings. Assumes nothing.
use Rattle.std.proofs.Common.{◌≡◌, ℕ, ◌+◌, ◌-◌, ◌*◌, ◌/◌, ◌<◌, ◌≤◌, cond, ltb, ◌≢◌, ◌⊎◌, List, [], ◌∷◌, ◌++◌, length, get_or, take, drop, set, replicate, sym, ap, ◌∙◌, subst, inl, inr, ⊎_elim, mul-le-mul_right, add-mul, one-mul, add-one, arith}
use native.Mathlib.Nat.{mul-div-le}
use lib.Seq.{take-set-lt}
use Rattle.std.proofs.lemmas.List.{length-take, length-drop, length-set, length-append, take-set-le, drop-set-lt, drop-set-add, set-append_left, set-append_right, take_more_set, take_more, drop_more, take-append-le, take_all, drop_all, append-nil, append_assoc, get_or-set_same, get_or-set_other, get_or-drop, get_or-take, get_or-replicate, get_or_past}
use Rattle.std.proofs.lemmas.Bool.{cond_below, lt-ltb, le-ltb, cases_lt, cases_order}
use Rattle.mailbox.proofs.Rooms.{cond_same, roomy-put, roomy-take}
use Rattle.mailbox.specs.Ring.{no_messages, Within, lane, turned, waits, around}
use Rattle.mailbox.specs.LaneLists.{ring_of, lanes_waiting, lanes_room, lanes_kind}
use Rattle.mailbox.specs.declared.ring.Ring.{Ring}
use Rattle.mailbox.specs.declared.lanes.Lanes.{Lanes}
use Rattle.model.specs.Mailbox.{Put, Take}

-- lane c ends inside the memory
lane-within : (c size n : ℕ) → c < 32 → size ≡ n / 32 → c * size + size ≤ n
lane-within c size n h e =
    let a : (c + 1) * size ≤ 32 * size = mul-le-mul_right size (omega arith) in
    let b = mul-div-le n 32 in
    let d : 32 * size ≤ n = subst (λ x. 32 * x ≤ n) (sym e) b in
    let f : (c + 1) * size ≡ c * size + size = add-mul c 1 size ∙ ap (λ x. c * size + x) (one-mul size) in
    omega (arith, a, d, f)

-- a lane before another ends where that begins, or before
lane-apart : (j k size : ℕ) → j < k → j * size + size ≤ k * size
lane-apart j k size h =
    let a : (j + 1) * size ≤ k * size = mul-le-mul_right size (omega arith) in
    let f : (j + 1) * size ≡ j * size + size = add-mul j 1 size ∙ ap (λ x. j * size + x) (one-mul size) in
    omega (arith, a, f)

-- the two ways to the place after a head
around_way : (size h n : ℕ) → h ≤ size → n < size → ((h + n < size) × (around size h n ≡ h + n)) ⊎ (h + n ≡ size + around size h n)
around_way size h n hs ns =
    ⊎_elim
    (λ (lt : h + n < size). inl (lt, ap (λ b. cond b (h + n) (h + n - size)) (lt-ltb (h + n) size lt)))
    (λ (le : size ≤ h + n). let e : around size h n ≡ h + n - size = ap (λ b. cond b (h + n) (h + n - size)) (le-ltb (h + n) size le) in inr (omega (arith, e)))
    (cases_lt (h + n) size)

module _ {M : Type 0} where
  length-lane : (xs : List M) (size c : ℕ) → c * size + size ≤ length xs → length (lane xs size c) ≡ size
  length-lane xs size c h = simp (length-take, length-drop) (omega arith)

  length-turned : (h : ℕ) (xs : List M) → h ≤ length xs → length (turned h xs) ≡ length xs
  length-turned h xs le = simp (length-append, length-take, length-drop) (omega arith)

  lane-set-same : (xs : List M) (size c at : ℕ) (m : M) → at < size → lane (set xs (c * size + at) m) size c ≡ set (lane xs size c) at m
  lane-set-same xs size c at m h = ap (take size) (drop-set-add (c * size) xs at m) ∙ take-set-lt size (drop (c * size) xs) at m h

  lane-set-other : (xs : List M) (size c k at : ℕ) (m : M) → at < size → k ≢ c → lane (set xs (c * size + at) m) size k ≡ lane xs size k
  lane-set-other xs size c k at m h ne =
      ⊎_elim
      (λ (e : k ≡ c). absurd (ne e))
      (⊎_elim
      (λ (lt : k < c).
      let far = lane-apart k c size lt in
      let j : ℕ = c * size + at - k * size in
      let e : c * size + at ≡ k * size + j = omega arith in
      ap (λ i. take size (drop (k * size) (set xs i m))) e ∙ ap (take size) (drop-set-add (k * size) xs j m) ∙ take-set-le size (drop (k * size) xs) j m (omega arith))
      (λ (lt : c < k). let far = lane-apart c k size lt in ap (take size) (drop-set-lt (k * size) xs (c * size + at) m (omega arith))))
      (cases_order k c)

  -- one message more at the end of a ring
  turned-set-near : (xs : List M) (h n : ℕ) (m : M) → h + n < length xs → turned h (set xs (h + n) m) ≡ set (turned h xs) n m
  turned-set-near xs h n m lt =
      let a : drop h (set xs (h + n) m) ≡ set (drop h xs) n m = drop-set-add h xs n m in
      let b : take h (set xs (h + n) m) ≡ take h xs = take-set-le h xs (h + n) m (omega arith) in
      let e : n < length (drop h xs) = simp length-drop (omega arith) in
      let s : set (drop h xs ++ take h xs) n m ≡ set (drop h xs) n m ++ take h xs = set-append_left (drop h xs) (take h xs) n m e in
      cc

  turned-set-far : (xs : List M) (h n at : ℕ) (m : M) → h ≤ length xs → n < length xs → h + n ≡ length xs + at → turned h (set xs at m) ≡ set (turned h xs) n m
  turned-set-far xs h n at m le lt e =
      let a : drop h (set xs at m) ≡ drop h xs = drop-set-lt h xs at m (omega arith) in
      let b : take h (set xs at m) ≡ set (take h xs) at m = take-set-lt h xs at m (omega arith) in
      let l : length (drop h xs) ≡ length xs - h = length-drop h xs in
      let i : n - (length xs - h) ≡ at = omega arith in
      let s : set (drop h xs ++ take h xs) n m ≡ drop h xs ++ set (take h xs) (n - (length xs - h)) m = set-append_right (drop h xs) (take h xs) (length xs - h) n m l (omega arith) in
      cc

  ring_put : (xs : List M) (size h n : ℕ) (m : M) → length xs ≡ size → h ≤ size → n < size → take (n + 1) (turned h (set xs (around size h n) m)) ≡ take n (turned h xs) ++ m ∷ []
  ring_put xs size h n m l le lt =
      let e : turned h (set xs (around size h n) m) ≡ set (turned h xs) n m =
      ⊎_elim
      (λ (w : (h + n < size) × (around size h n ≡ h + n)). ap (λ i. turned h (set xs i m)) w.1 ∙ turned-set-near xs h n m (omega (arith, w.0, l)))
      (λ (w : h + n ≡ size + around size h n). turned-set-far xs h n (around size h n) m (omega (arith, l)) (omega (arith, l)) (omega (arith, w, l)))
      (around_way size h n le lt) in
      ap (take (n + 1)) e ∙ take_more_set (turned h xs) n m (let t = length-turned h xs (omega (arith, l)) in omega (arith, t, l))

  -- the first message of a ring leaves
  turned-first : (xs : List M) (at n : ℕ) (m : M) → at < length xs → n < length xs → m ≡ get_or xs at m → take (n + 1) (turned at xs) ≡ m ∷ take n (turned (at + 1) xs)
  turned-first xs at n m lt le read =
      let a : drop at xs ≡ m ∷ drop (at + 1) xs = drop_more xs at m lt ∙ ap (λ x. x ∷ drop (at + 1) xs) (sym read) in
      let b : take (at + 1) xs ≡ take at xs ++ m ∷ [] = take_more xs at m lt ∙ ap (λ x. take at xs ++ x ∷ []) (sym read) in
      let ys : List M = drop (at + 1) xs ++ take at xs in
      let f : turned at xs ≡ m ∷ ys = ap (λ x. x ++ take at xs) a in
      let k : turned (at + 1) xs ≡ ys ++ m ∷ [] = ap (λ x. drop (at + 1) xs ++ x) b ∙ sym (append_assoc (drop (at + 1) xs) (take at xs) (m ∷ [])) in
      let l : n ≤ length ys = simp (length-append, length-take, length-drop) (omega arith) in
      let t : take n (ys ++ m ∷ []) ≡ take n ys = take-append-le n ys (m ∷ []) l in
      ap (take (n + 1)) f ∙ ap (λ i. take i (m ∷ ys)) (add-one n) ∙ ap (λ z. m ∷ z) (sym (ap (take n) k ∙ t))

  ring_take : (xs : List M) (size h n : ℕ) (m : M) → length xs ≡ size → h ≤ size → 0 < n → n ≤ size → m ≡ get_or xs (around size h 0) m → take n (turned h xs) ≡ m ∷ take (n - 1) (turned (around size h 0 + 1) xs)
  ring_take xs size h n m l hs pos le read =
      let at : ℕ = around size h 0 in
      let e : n ≡ (n - 1) + 1 = omega arith in
      ⊎_elim
      (λ (w : (h + 0 < size) × (at ≡ h + 0)).
      let i : h ≡ at = omega (arith, w.1) in
      ap (λ i. take n (turned i xs)) i ∙ ap (λ i. take i (turned at xs)) e ∙ turned-first xs at (n - 1) m (omega (arith, w.0, w.1, l)) (omega (arith, l)) read)
      (λ (w : h + 0 ≡ size + at).
      let z : turned h xs ≡ turned 0 xs =
      ap (λ y. y ++ take h xs) (drop_all h xs (omega (arith, w, l))) ∙ take_all h xs (omega (arith, w, l)) ∙ sym (append-nil xs) in
      let i : at ≡ 0 = omega (arith, w, hs) in
      ap (take n) (z ∙ ap (λ i. turned i xs) (sym i)) ∙ ap (λ i. take i (turned at xs)) e ∙ turned-first xs at (n - 1) m (omega (arith, i, l)) (omega (arith, l)) read)
      (around_way size h 0 hs (omega arith))

-- a message that is written into another lane
waits-other : {M : Type 0} (mem : List M) (size c k : ℕ) (r : Ring) (place : ℕ) (m : M) → place < size → k ≢ c → waits (set mem (c * size + place) m) size r k ≡ waits mem size r k
waits-other mem size c k r place m within ne = ap (λ l. cond (ltb k 32) (take r.count (turned r.head l)) []) (lane-set-other mem size c k place m within ne)

-- the lane of channel c, and its ring
module _ {T : Type 0} (s : Lanes T) (c : ℕ) (low : c < 32) where
  abbrev ring : Ring
  ring = ring_of s.rings c

  abbrev its_lane : List T
  its_lane = lane s.memory.now s.size c

  there : c < length s.rings
  there = let e = s.each in omega (arith, low, e)

  pub within_lane : Within s.size ring
  within_lane = s.inside c no_messages there

  long : length its_lane ≡ s.size
  long = length-lane s.memory.now s.size c (lane-within c s.size (length s.memory.now) low s.cut)

  pub count_is : length (lanes_waiting s c) ≡ ring.count
  count_is =
      let l = long in
      let w = within_lane in
      let t = length-turned ring.head its_lane (omega (arith, l, w.0)) in
      ap length (sym (cond_below c 32 (take ring.count (turned ring.head its_lane)) [] low)) ∙ length-take ring.count (turned ring.head its_lane) ∙ omega (arith, l, t, w.1)

  pub room_is : lanes_room s c ≡ s.size - ring.count
  room_is =
      let l = count_is in
      let cut = s.cut in
      sym (cond_below c 32 (length s.memory.now / 32 - length (lanes_waiting s c)) 0 low) ∙ omega (arith, l, cut)

  -- a message that joins, where the place after the last one is
  waits-put : (m : T) (place : ℕ) → ring.count < s.size → place < s.size → place ≡ around s.size ring.head ring.count → waits (set s.memory.now (c * s.size + place) m) s.size (record { head = ring.head; count = ring.count + 1 }) c ≡ lanes_waiting s c ++ m ∷ []
  waits-put m place full within at =
      sym (cond_below c 32 (take (ring.count + 1) (turned ring.head (lane (set s.memory.now (c * s.size + place) m) s.size c))) [] low)
      ∙ ap (λ l. take (ring.count + 1) (turned ring.head l)) (lane-set-same s.memory.now s.size c place m within)
      ∙ ap (λ i. take (ring.count + 1) (turned ring.head (set its_lane i m))) at
      ∙ ring_put its_lane s.size ring.head ring.count m long within_lane.0 full
      ∙ ap (λ z. z ++ m ∷ []) (cond_below c 32 (take ring.count (turned ring.head its_lane)) [] low)

  -- the first message, where the head is, leaves
  waits-take : (m : T) (place : ℕ) → 0 < ring.count → place < s.size → place ≡ around s.size ring.head 0 → m ≡ get_or s.memory.now (c * s.size + place) m → lanes_waiting s c ≡ m ∷ waits s.memory.now s.size (record { head = place + 1; count = ring.count - 1 }) c
  waits-take m place some within at read =
      let read' : m ≡ get_or its_lane place m = read ∙ sym (get_or-take s.size (drop (c * s.size) s.memory.now) place m within ∙ get_or-drop (c * s.size) s.memory.now place m) in
      sym (cond_below c 32 (take ring.count (turned ring.head its_lane)) [] low)
      ∙ ring_take its_lane s.size ring.head ring.count m long within_lane.0 some within_lane.1 (read' ∙ ap (λ i. get_or its_lane i m) at)
      ∙ ap (λ i. m ∷ take (ring.count - 1) (turned (i + 1) its_lane)) (sym at)
      ∙ ap (λ z. m ∷ z) (cond_below c 32 (take (ring.count - 1) (turned (place + 1) its_lane)) [] low)

  -- what the lanes are once a message has joined or left; i is where it is in the memory
  module _ (t : Lanes T) (place i : ℕ) (m : T) (inside : place < s.size) (at : i ≡ c * s.size + place) (size : t.size ≡ s.size) where
    pub put_made : ring.count < s.size → place ≡ around s.size ring.head ring.count → t.memory.now ≡ set s.memory.now i m → t.rings ≡ set s.rings c (record { head = ring.head; count = ring.count + 1 }) → Put lanes_kind s c m t
    put_made full next memory rings =
        let r : Ring = record { head = ring.head; count = ring.count + 1 } in
        let mem : List T = set s.memory.now (c * s.size + place) m in
        let lists : (d : ℕ) → lanes_waiting t d ≡ waits mem s.size (ring_of (set s.rings c r) d) d =
        λ d. ap (λ z. waits z t.size (ring_of t.rings d) d) (memory ∙ ap (λ j. set s.memory.now j m) at) ∙ ap (λ n. waits mem n (ring_of t.rings d) d) size ∙ ap (λ q. waits mem s.size (ring_of q d) d) rings in
        let joined : lanes_waiting t c ≡ lanes_waiting s c ++ m ∷ [] =
        lists c ∙ ap (λ q. waits mem s.size q c) (get_or-set_same s.rings c r no_messages there) ∙ waits-put m place full inside next in
        let others : (d : ℕ) → d ≢ c → lanes_waiting t d ≡ lanes_waiting s d =
        λ d ne. lists d ∙ ap (λ q. waits mem s.size q d) (get_or-set_other s.rings c d r no_messages ne) ∙ waits-other s.memory.now s.size c d (ring_of s.rings d) place m inside ne in
        record {
          joined = joined;
          others = others;
          roomy = roomy-put (length s.memory.now / 32) (length t.memory.now / 32) (lanes_waiting s) (lanes_waiting t) c m (ap (λ z. length z / 32) memory ∙ ap (λ n. n / 32) (length-set s.memory.now i m)) others joined;
        }

    pub take_made : 0 < ring.count → place ≡ around s.size ring.head 0 → m ≡ get_or s.memory.now i m → t.memory.now ≡ s.memory.now → t.rings ≡ set s.rings c (record { head = place + 1; count = ring.count - 1 }) → Take lanes_kind s c m t
    take_made some first read memory rings =
        let r : Ring = record { head = place + 1; count = ring.count - 1 } in
        let lists : (d : ℕ) → lanes_waiting t d ≡ waits s.memory.now s.size (ring_of (set s.rings c r) d) d =
        λ d. ap (λ z. waits z t.size (ring_of t.rings d) d) memory ∙ ap (λ n. waits s.memory.now n (ring_of t.rings d) d) size ∙ ap (λ q. waits s.memory.now s.size (ring_of q d) d) rings in
        let removed : lanes_waiting s c ≡ m ∷ lanes_waiting t c =
        waits-take m place some inside first (read ∙ ap (λ j. get_or s.memory.now j m) at) ∙ ap (λ z. m ∷ z) (sym (lists c ∙ ap (λ q. waits s.memory.now s.size q c) (get_or-set_same s.rings c r no_messages there))) in
        let others : (d : ℕ) → d ≢ c → lanes_waiting t d ≡ lanes_waiting s d =
        λ d ne. lists d ∙ ap (λ q. waits s.memory.now s.size q d) (get_or-set_other s.rings c d r no_messages ne) in
        record {
          removed = removed;
          others = others;
          roomy = roomy-take (length s.memory.now / 32) (length t.memory.now / 32) (lanes_waiting s) (lanes_waiting t) c m (ap (λ z. length z / 32) memory) others removed;
        }

none_of : (k : ℕ) → ring_of (replicate 32 no_messages) k ≡ no_messages
none_of k =
    ⊎_elim
    (λ (lt : k < 32). get_or-replicate 32 k no_messages no_messages lt)
    (λ (le : 32 ≤ k). get_or_past (replicate 32 no_messages) k no_messages le)
    (cases_lt k 32)

module _ {T : Type 0} (mem : List T) (size : ℕ) (rings : List Ring) (empty : rings ≡ replicate 32 no_messages) (c : ℕ) where
  pub none_waits : waits mem size (ring_of rings c) c ≡ []
  none_waits = ap (λ r. waits mem size r c) (ap (λ z. ring_of z c) empty ∙ none_of c) ∙ cond_same (ltb c 32) []

  pub room_at_first : c < 32 → cond (ltb c 32) (size - length (waits mem size (ring_of rings c) c)) 0 ≡ size
  room_at_first low =
      let none = ap length none_waits in
      sym (cond_below c 32 (size - length (waits mem size (ring_of rings c) c)) 0 low) ∙ omega (arith, none)
