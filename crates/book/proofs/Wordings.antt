-- The wording by rule number, over a book's reading: what the places found say of it, and where it stands in the book.
-- Assumes nothing.
use Prim.Native.Nat.{ℕ, ◌+◌, ◌-◌, ◌≤◌, ◌<◌}
use mathlib.Core.Path.{◌≡◌, refl, sym, ap, ◌∙◌}
use mathlib.Core.List.{List, [], ◌++◌}
use native.Mathlib.Omega.{arith}
use lib.ListN.{length, take, drop, get_or, replicate, get_or-append}
use lib.Seq.{take_at}
use Rattle.std.specs.Prelude.{Ok, Err}
use Rattle.book.specs.declared.reader.Found.{Found}
use Rattle.book.specs.declared.refusal.Refusal.{Refusal}
use Rattle.book.specs.Rules.{Rule, rule_places, padded, places_of}
use Rattle.book.specs.Read.{BookRead, accepted, refused, read_book, sized, placed_of}
use Rattle.book.specs.Wording.{rule_wording, wording_place, sought}
use Rattle.book.proofs.Limits.{read_kept}
use Rattle.book.proofs.Growth.{length-rule_places}
use Rattle.book.proofs.Offsets.{Shows, rule_places-within, sought-places, wording_place_shows}
use Rattle.book.proofs.Stands.{read-stands}

-- a book that is refused
pub refused-place : (book : List ℕ) (n : ℕ) (e : Refusal) → Err e ≡ placed_of (read_book book) → Err e ≡ wording_place (read_book book) n
unfolding placed_of wording_place
refused-place book n e = by (read_book book) where
  by : (b : BookRead) → Err e ≡ placed_of b → Err e ≡ wording_place b n
  by (accepted rules) w = cc
  by (refused f) w = cc

-- a book that is accepted
module _ (book : List ℕ) (found : Found) (e : Ok found ≡ placed_of (read_book book)) where
  pub rules-read : (rules : List Rule) × ((read_book book ≡ accepted rules) × (found ≡ record { size = sized rules; places = places_of rules }))
  unfolding placed_of
  rules-read = by (read_book book) refl e where
    by : (b : BookRead) → read_book book ≡ b → Ok found ≡ placed_of b → (rules : List Rule) × ((read_book book ≡ accepted rules) × (found ≡ record { size = sized rules; places = places_of rules }))
    by (accepted rules) r w = (rules, (r, cc))
    by (refused f) r w = cc

  abbrev rules : List Rule
  rules = rules-read.0

  many : found.size.rules ≡ length rules
  many = ap (λ (f : Found). f.size.rules) rules-read.1.1

  places_are : found.places.rules ≡ rule_places 0 rules ++ replicate (32 - length (rule_places 0 rules)) 0
  unfolding places_of padded
  places_are = ap (λ (f : Found). f.places.rules) rules-read.1.1

  pub accepted-within : (found.size.rules ≤ 32) × ((k : ℕ) → k < found.size.rules → get_or found.places.rules k 0 + 27 ≤ length book)
  accepted-within =
      let read = rules-read.1.0 in (
        omega (arith, many, (read_kept book rules read).most),
        λ k l.
            let among : k < length (rule_places 0 rules) = omega (arith, many, l, length-rule_places 0 rules) in
            rw (places_are, get_or-append (rule_places 0 rules) _ 0 k among) (rule_places-within book 0 rules (read-stands book rules read).0.stand k (omega (arith, many, l))),
      )

  pub rules_few : found.size.rules ≤ 32
  rules_few = accepted-within.0

  pub accepted-place : (n : ℕ) → sought book (take found.size.rules found.places.rules) n ≡ wording_place (read_book book) n
  unfolding wording_place
  accepted-place n =
      let read = rules-read.1.0 in
      rw (places_are, take_at (rule_places 0 rules) _ found.size.rules (length-rule_places 0 rules ∙ sym many), read) (sought-places book 0 rules n (read-stands book rules read).0.stand)

-- ---- the part of the book that a place shows

module _ (book : List ℕ) (n : ℕ) where
  shown : Shows book (wording_place (read_book book) n) (rule_wording (read_book book) n)
  unfolding wording_place rule_wording
  shown = by (read_book book) refl where
    by : (b : BookRead) → read_book book ≡ b → Shows book (wording_place b n) (rule_wording b n)
    by (accepted rules) r = wording_place_shows book 0 rules n (read-stands book rules r).0.stand
    by (refused e) r = refl

  pub wording-at : (p : ℕ) → Ok p ≡ wording_place (read_book book) n → (p + 24 ≤ length book) × (take 24 (drop p book) ≡ rule_wording (read_book book) n)
  wording-at p e = rw (← e) at shown

  pub wording-none : (e : Refusal) → Err e ≡ wording_place (read_book book) n → rule_wording (read_book book) n ≡ []
  wording-none e f = rw (← f) at shown
