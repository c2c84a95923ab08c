-- The size is the one found with the places, and so is a refusal.
use Rattle.std.proofs.Common.{◌≡◌, Ok, Err, rules}
use Rattle.book.specs.declared.reader.Found.{Found}
use Rattle.book.specs.declared.refusal.Refusal.{Refusal}
use Rattle.book.specs.Read.{BookRead, accepted, refused, answer_of, placed_of}
use Rattle.book.proofs.reader.read.Goals as goal

refused_too : (b : BookRead) (e : Refusal) → Err e ≡ placed_of b → Err e ≡ answer_of b
unfolding answer_of placed_of
refused_too (accepted rules) e h = cc
refused_too (refused f) e h = cc

size_found : (b : BookRead) (found : Found) → Ok found ≡ placed_of b → Ok found.size ≡ answer_of b
unfolding answer_of placed_of
size_found (accepted rules) found h = cc
size_found (refused f) found h = cc

pub returns-in_err-found : goal.returns-in_err-found
returns-in_err-found c = let h = refused_too _ _ c.in_err-found.ensures in search rules

pub returns : goal.returns
returns c = size_found _ _ c.in_ok-found.ensures
