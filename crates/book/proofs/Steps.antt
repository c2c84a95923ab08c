-- What the tag of a record tells. Assumes nothing.
use mathlib.Core.Path.{◌≡◌, refl}
use mathlib.Core.List.{[], ◌∷◌}
use types.Run.{OneOf, hit}
use denote.Enum.Declared.{tag_of}
use Rattle.book.specs.contracts.record.Record.{the_type}
use Rattle.book.specs.declared.record.Record.{Record}
use Rattle.book.specs.declared.record.Record.TheVariants.{Rule, Condition, Test, End}

-- the tags that a record can have: a refusal is none
pub tag_unless-refused : (r : Record) → OneOf (0 ∷ 1 ∷ 2 ∷ 3 ∷ []) (tag_of the_type r)
tag_unless-refused (Rule n) = hit (0 ∷ 1 ∷ 2 ∷ 3 ∷ []) 0 tt
tag_unless-refused Condition = hit (0 ∷ 1 ∷ 2 ∷ 3 ∷ []) 1 tt
tag_unless-refused (Test t) = hit (0 ∷ 1 ∷ 2 ∷ 3 ∷ []) 2 tt
tag_unless-refused End = hit (0 ∷ 1 ∷ 2 ∷ 3 ∷ []) 3 tt

-- the tags that a record can have which is not the end
pub tag_unless-end : (r : Record) → (r ≡ End → ⊥) → OneOf (0 ∷ 1 ∷ 2 ∷ []) (tag_of the_type r)
tag_unless-end (Rule n) h = hit (0 ∷ 1 ∷ 2 ∷ []) 0 tt
tag_unless-end Condition h = hit (0 ∷ 1 ∷ 2 ∷ []) 1 tt
tag_unless-end (Test t) h = hit (0 ∷ 1 ∷ 2 ∷ []) 2 tt
tag_unless-end End h = absurd (h refl)
