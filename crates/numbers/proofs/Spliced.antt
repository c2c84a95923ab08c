-- A part of a list written over: how long the list is, what stands before, in and after that part, one part written behind another, and a part lent from the middle.
-- Assumes nothing.
use Prim.Native.Nat.{ℕ, ◌+◌, ◌-◌, ◌≤◌, ◌<◌}
use mathlib.Core.Path.{◌≡◌, sym, ap, ◌∙◌}
use mathlib.Core.List.{List, [], ◌∷◌, ◌++◌, append_assoc, append-nil}
use native.Mathlib.Nat.{add-zero, zero-add}
use native.Mathlib.Omega.{arith}
use lib.ListN.{length, take, drop, get_or, set, length-append, length-drop, drop_of_length-le, take-append-drop, get_or-append}
use lib.Seq.{length-take-le, take_all, take-take, take-append-le, take-append_seam, take_at, drop_at, drop-drop, get_or-take, get_or-drop, sets, sets-eq}
use borrow.Rule.Slice.PartMut.{put_mid}
use Rattle.numbers.specs.Spliced.{spliced}

module _ {A : Type 0} where
  -- ---- nothing, a front, stores

  pub spliced_nil : (xs : List A) (a : ℕ) → spliced xs a [] ≡ xs
  unfolding spliced
  spliced_nil xs a = rw add-zero (take-append-drop a xs)

  pub spliced_front : (xs ys : List A) → spliced xs 0 ys ≡ ys ++ drop (length ys) xs
  unfolding spliced
  spliced_front xs ys = rw zero-add

  -- stores one behind the other are a splice, and so is one store
  pub sets_spliced : (xs : List A) (a : ℕ) (ys : List A) → a + length ys ≤ length xs → sets xs a ys ≡ spliced xs a ys
  unfolding spliced
  sets_spliced xs a ys h = sets-eq ys xs a h ∙ append_assoc (take a xs) ys (drop (a + length ys) xs)

  pub set-spliced : (xs : List A) (i : ℕ) (v : A) → i < length xs → set xs i v ≡ spliced xs i (v ∷ [])
  set-spliced xs i v h = sets_spliced xs i (v ∷ []) (omega arith)

  -- ---- before, in and after the part

  module _ (xs : List A) (a : ℕ) (ys : List A) where
    regrouped : spliced xs a ys ≡ (take a xs ++ ys) ++ drop (a + length ys) xs
    unfolding spliced
    regrouped = sym (append_assoc (take a xs) ys (drop (a + length ys) xs))

    module _ (h : a ≤ length xs) where
      length-head : length (take a xs ++ ys) ≡ a + length ys
      length-head = length-append (take a xs) ys ∙ ap (λ (k : ℕ). k + length ys) (length-take-le a xs h)

      pub take-spliced : (n : ℕ) → n ≤ a → take n (spliced xs a ys) ≡ take n xs
      unfolding spliced
      take-spliced n k =
          take-append-le n (take a xs) (ys ++ drop (a + length ys) xs) (omega (arith, length-take-le a xs h)) ∙ take-take n a xs k

      drop_here : drop a (spliced xs a ys) ≡ ys ++ drop (a + length ys) xs
      unfolding spliced
      drop_here = drop_at (take a xs) (ys ++ drop (a + length ys) xs) a (length-take-le a xs h)

      pub part-spliced : take (length ys) (drop a (spliced xs a ys)) ≡ ys
      part-spliced = rw drop_here (take-append_seam ys (drop (a + length ys) xs))

      pub drop-spliced : (n : ℕ) → a + length ys ≤ n → drop n (spliced xs a ys) ≡ drop n xs
      drop-spliced n k =
          let end : ℕ = a + length ys in
          let e : n ≡ end + (n - end) = omega arith in
          let s : drop end (spliced xs a ys) ≡ drop end xs = ap (drop end) regrouped ∙ drop_at (take a xs ++ ys) (drop end xs) end length-head in
          ap (λ (m : ℕ). drop m (spliced xs a ys)) e
          ∙ sym (drop-drop (n - end) end (spliced xs a ys))
          ∙ ap (drop (n - end)) s
          ∙ drop-drop (n - end) end xs
          ∙ ap (λ (m : ℕ). drop m xs) (sym e)

      pub get_or-spliced-before : (k : ℕ) (d : A) → k < a → get_or (spliced xs a ys) k d ≡ get_or xs k d
      unfolding spliced
      get_or-spliced-before k d l =
          get_or-append (take a xs) (ys ++ drop (a + length ys) xs) d k (omega (arith, length-take-le a xs h)) ∙ get_or-take a xs k d l

      pub get_or-spliced_in : (k : ℕ) (d : A) → k < length ys → get_or (spliced xs a ys) (a + k) d ≡ get_or ys k d
      get_or-spliced_in k d l =
          sym (get_or-drop a (spliced xs a ys) k d)
          ∙ ap (λ (l : List A). get_or l k d) drop_here
          ∙ get_or-append ys (drop (a + length ys) xs) d k l

      pub get_or-spliced-after : (k : ℕ) (d : A) → a + length ys ≤ k → get_or (spliced xs a ys) k d ≡ get_or xs k d
      get_or-spliced-after k d l =
          let at : (l : List A) → get_or (drop k l) 0 d ≡ get_or l k d = λ l. get_or-drop k l 0 d ∙ ap (λ (i : ℕ). get_or l i d) (add-zero k) in
          sym (at (spliced xs a ys)) ∙ ap (λ (l : List A). get_or l 0 d) (drop-spliced k l) ∙ at xs

      -- ---- one part behind another

      pub spliced_twice : (b : ℕ) (zs : List A) → b ≡ a + length ys → spliced (spliced xs a ys) b zs ≡ spliced xs a (ys ++ zs)
      unfolding spliced
      spliced_twice b zs e =
          let head : take b (spliced xs a ys) ≡ take a xs ++ ys = ap (take b) regrouped ∙ take_at (take a xs ++ ys) (drop (a + length ys) xs) b (length-head ∙ sym e) in
          let end : b + length zs ≡ a + length (ys ++ zs) = omega (arith, length-append ys zs) in
          rw (head, drop-spliced (b + length zs) (omega arith), end) (simp append_assoc)

    pub length-spliced : a + length ys ≤ length xs → length (spliced xs a ys) ≡ length xs
    length-spliced h =
        ap length regrouped
        ∙ length-append (take a xs ++ ys) (drop (a + length ys) xs)
        ∙ omega (arith, length-head (omega arith), length-drop (a + length ys) xs)

  -- a part written at the front, up to one that stands already
  pub spliced_up_to : (xs ys : List A) (b : ℕ) (zs : List A) → b ≤ length xs → b ≡ length ys → spliced (spliced xs b zs) 0 ys ≡ spliced xs 0 (ys ++ zs)
  spliced_up_to xs ys b zs h e =
      let end : b + length zs ≡ length (ys ++ zs) = omega (arith, length-append ys zs) in
      rw (spliced_front, spliced_front, ← e, drop_here xs b zs h, end) (sym (append_assoc ys zs (drop (length (ys ++ zs)) xs)))

  -- ---- a part lent from the middle

  -- the k elements from a on, lent, come back as ys: with `put_mid`, the library's word for a part of a slice that was written
  pub put_mid-spliced : (a k : ℕ) (xs ys : List A) → length ys ≡ k → put_mid a k xs ys ≡ spliced xs a ys
  unfolding spliced
  put_mid-spliced a k xs ys e = rw (drop-drop, ← e)

  -- the rest from a on, lent, with ys written at its front: it comes back before what stood behind it, and that is nothing
  pub lent-spliced : (xs : List A) (a : ℕ) (ys : List A) {r : List A} → r ≡ spliced (take (length xs - a) (drop a xs)) 0 ys
      → take a xs ++ (r ++ drop (length xs - a) (drop a xs)) ≡ spliced xs a ys
  unfolding spliced
  lent-spliced xs a ys {r} e =
      let rest : List A = drop a xs in
      let n : ℕ = length xs - a in
      let short : length rest ≤ n = omega (arith, length-drop a xs) in
      let front : r ≡ ys ++ drop (a + length ys) xs =
      e ∙ spliced_front (take n rest) ys ∙ ap (λ (l : List A). ys ++ drop (length ys) l) (take_all n rest short) ∙ ap (λ (l : List A). ys ++ l) (drop-drop (length ys) a xs) in
      ap (λ (l : List A). take a xs ++ (r ++ l)) (drop_of_length-le rest short) ∙ ap (λ (l : List A). take a xs ++ l) (append-nil r ∙ front)
