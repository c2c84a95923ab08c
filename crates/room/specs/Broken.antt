-- The rule behind refusal 10, over the bytes of a room: docs/ROOM.md writes it out. Assumes nothing: these are definitions.
use Rattle.std.specs.Prelude.{ℕ, ◌+◌, Bool, true, not, ◌&&◌, ◌||◌, List, [], ◌∷◌, ltb, leb, eqb, length, take}
use Rattle.room.specs.Parts.{part, twos}
use Rattle.room.specs.Layout.{head_number, formula}

-- every number passes p
unfoldable pub every : (ℕ → Bool) → List ℕ → Bool
every p [] = true
every p (x ∷ xs) = p x && every p xs

unfoldable pub sum : List ℕ → ℕ
sum [] = 0
sum (x ∷ xs) = x + sum xs

-- "a stored limit, count .. outside its range": the numbers of the header
unfoldable pub head_fits : List ℕ → Bool
head_fits room =
    leb 1 (head_number room 0) && leb (head_number room 0) 256
    && (leb 1 (head_number room 1) && leb (head_number room 1) 2048)
    && leb (head_number room 2) (head_number room 0)
    && leb (head_number room 3) (head_number room 1)
    && leb (head_number room 4) 8192
    && leb (head_number room 5) 32
    && leb (head_number room 6) 192
    && eqb (head_number room 7) 0

-- the tables of rules: each has 1 to 6 conditions, which add up to the conditions of the book; each index after a rule's last token, and each number of
-- complete matches, is at most the tokens
unfoldable pub tables_fit : List ℕ → Bool
tables_fit room =
    every (λ k. leb 1 k && leb k 6) (take (head_number room 5) (part room 8656 32))
    && eqb (sum (take (head_number room 5) (part room 8656 32))) (head_number room 6)
    && every (λ e. leb e (head_number room 3)) (twos (head_number room 5) (part room 8688 64))
    && every (λ m. leb m (head_number room 3)) (twos (head_number room 5) (part room 8752 64))

-- "shorter than the formula for its stored E and T, or a stored limit, count or link outside its range"
unfoldable pub broken : List ℕ → Bool
broken room =
    ltb (length room) 16
    || (not (head_fits room)
    || (ltb (length room) (formula (head_number room 0) (head_number room 1))
    || not (tables_fit room)))
