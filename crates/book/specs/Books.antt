-- Rule books byte by byte: books A and B of document 01 with their rules, and books that are refused. Assumes nothing: these are definitions.
use Rattle.std.specs.Prelude.{ℕ, List, [], ◌∷◌, ◌++◌, pos, replicate}
use Rattle.book.specs.declared.record.Test.TheVariants.{Constant, Gap}
use Rattle.book.specs.Rules.{Rule}
use Rattle.book.specs.declared.refusal.Cause.TheVariants.{BookTooLong, CutShort, UnknownKind, Misplaced, NumberNotAbove, BadBody, TooMany}
use Rattle.book.specs.Read.{BookRead, refuse}

-- "jump over 500", and eleven spaces
unfoldable pub jump_over500 : List ℕ
jump_over500 = 106 ∷ 117 ∷ 109 ∷ 112 ∷ 32 ∷ 111 ∷ 118 ∷ 101 ∷ 114 ∷ 32 ∷ 53 ∷ 48 ∷ 48 ∷ 32 ∷ 32 ∷ 32 ∷ 32 ∷ 32 ∷ 32 ∷ 32 ∷ 32 ∷ 32 ∷ 32 ∷ 32 ∷ []

-- "Book A (84 bytes): rule 7, wording "jump over 500". Condition 0: column equal 3. Condition 1: column equal 3;
-- line gap to condition 0 from 1 to 1; value gap to condition 0 from 500 to 4,294,967,295."
unfoldable pub book_a : List ℕ
book_a =
    (1 ∷ 0 ∷ 7 ∷ jump_over500)
    ++ (2 ∷ 3 ∷ 1 ∷ 0 ∷ 0 ∷ 0 ∷ 0 ∷ 3 ∷ [])
    ++ (2 ∷ 3 ∷ 1 ∷ 0 ∷ 0 ∷ 0 ∷ 0 ∷ 3 ∷ [])
    ++ (5 ∷ 0 ∷ 0 ∷ 0 ∷ 0 ∷ 0 ∷ 0 ∷ 0 ∷ 0 ∷ 0 ∷ 0 ∷ 1 ∷ 0 ∷ 0 ∷ 0 ∷ 0 ∷ 0 ∷ 0 ∷ 0 ∷ 1 ∷ [])
    ++ (5 ∷ 2 ∷ 0 ∷ 2 ∷ 0 ∷ 0 ∷ 0 ∷ 0 ∷ 0 ∷ 0 ∷ 1 ∷ 244 ∷ 0 ∷ 0 ∷ 0 ∷ 0 ∷ 255 ∷ 255 ∷ 255 ∷ 255 ∷ [])
    ++ (9 ∷ [])

unfoldable pub rule_a : Rule
rule_a =
    record {
      number = 7;
      wording = jump_over500;
      conditions =
          (Constant 1 0 3 ∷ [])
          ∷ (Constant 1 0 3 ∷ Gap 0 0 0 (pos 1) (pos 1) ∷ Gap 2 0 2 (pos 500) (pos 4294967295) ∷ [])
          ∷ [];
    }

-- "any pair", and sixteen spaces
unfoldable pub any_pair : List ℕ
any_pair = 97 ∷ 110 ∷ 121 ∷ 32 ∷ 112 ∷ 97 ∷ 105 ∷ 114 ∷ 32 ∷ 32 ∷ 32 ∷ 32 ∷ 32 ∷ 32 ∷ 32 ∷ 32 ∷ 32 ∷ 32 ∷ 32 ∷ 32 ∷ 32 ∷ 32 ∷ 32 ∷ 32 ∷ []

-- "Book B: rule 1, two conditions without tests."
unfoldable pub book_b : List ℕ
book_b = (1 ∷ 0 ∷ 1 ∷ any_pair) ++ (2 ∷ 2 ∷ 9 ∷ [])

unfoldable pub rule_b : Rule
rule_b = record { number = 1; wording = any_pair; conditions = [] ∷ [] ∷ [] }

-- a rule's record of a number below 256, with a wording of spaces
unfoldable pub rule_record : ℕ → List ℕ
rule_record number = 1 ∷ 0 ∷ number ∷ replicate 24 32

-- for each refusal of a book one or more: "longer than 8,192 bytes"; "the bytes end inside a record, or where one must begin"; "unknown kind";
-- "condition .. before any rule", "a byte after the end"; "the first not above 0"; "place over 2"; "7th condition"
unfoldable pub refused_books : List (List ℕ × BookRead)
refused_books =
    (replicate 8193 9, refuse BookTooLong 0)
    ∷ ([], refuse CutShort 0)
    ∷ (rule_record 1, refuse CutShort 27)
    ∷ (1 ∷ 0 ∷ 1 ∷ [], refuse CutShort 0)
    ∷ (0 ∷ [], refuse UnknownKind 0)
    ∷ (2 ∷ [], refuse Misplaced 0)
    ∷ (9 ∷ 9 ∷ [], refuse Misplaced 1)
    ∷ (rule_record 0 ++ (2 ∷ 9 ∷ []), refuse NumberNotAbove 0)
    ∷ (rule_record 1 ++ (2 ∷ 4 ∷ 3 ∷ 0 ∷ 0 ∷ 0 ∷ 9 ∷ []), refuse BadBody 28)
    ∷ (rule_record 1 ++ replicate 7 2, refuse TooMany 33)
    ∷ []
