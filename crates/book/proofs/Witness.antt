-- Books that are accepted, and for each refusal of a book one that is refused with it: each is computed.
-- Assumes nothing.
use Prim.Native.Nat.{ℕ}
use mathlib.Core.Path.{◌≡◌, refl}
use mathlib.Core.List.{List, [], ◌∷◌, map}
use lib.ListN.{length}
use Rattle.numbers.specs.BigEndian.{uint}
use Rattle.numbers.specs.Signed.{signed}
use Rattle.book.specs.Record.{whole, rule_body, constant_body, position_body, gap_body, by_kind, record_at, test_size, size_of}
use Rattle.book.specs.Judgement.{printable, wording_of, test_fits, unfinished, rule_judged, condition_judged, test_judged, end_judged, judged}
use Rattle.book.specs.Rules.{last_or, on_last, no_rule, with_condition, with_test, condition_count, standing}
use Rattle.book.specs.Read.{BookRead, accepted, unless, grown, bytes_of, ended, turn, walk, read_book}
use Rattle.book.specs.Books.{jump_over500, book_a, rule_a, any_pair, book_b, rule_b, rule_record, refused_books}

-- the reading of a book that is given byte by byte, which computes
reading : List ℕ → BookRead
unfolding read_book walk turn ended bytes_of grown unless judged end_judged test_judged condition_judged rule_judged unfinished test_fits wording_of printable standing condition_count with_test with_condition no_rule on_last last_or size_of test_size record_at by_kind gap_body position_body constant_body rule_body whole uint signed
reading book = read_book book

pub length-book_a : length book_a ≡ 84
unfolding book_a jump_over500
length-book_a = refl

pub read_book-book_a : read_book book_a ≡ accepted (rule_a ∷ [])
unfolding reading book_a rule_a jump_over500
read_book-book_a = refl

pub read_book-book_b : read_book book_b ≡ accepted (rule_b ∷ [])
unfolding reading book_b rule_b any_pair
read_book-book_b = refl

-- "The book of the single byte 9 has no rules."
pub read_book_nine : read_book (9 ∷ []) ≡ accepted []
unfolding reading
read_book_nine = refl

pub read_book-refused_books : map (λ c. read_book c.0) refused_books ≡ map (λ c. c.1) refused_books
unfolding reading refused_books rule_record
read_book-refused_books = refl
