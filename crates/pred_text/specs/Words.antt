-- The tokens of the text of a predicate: parentheses, and longest runs of other bytes than these, space and LF. This
-- project's own.
use Rattle.std.specs.Prelude.{ℕ, ◌+◌, List, [], ◌∷◌, Bool, true, false, ◌||◌, nat_eq, if◌then◌else◌, codes, bytes_eq, take, Option, Some, None}
use Rattle.std.specs.List.{position_or_len}
use Rattle.predicates.specs.declared.pred.PredCond.{PredCond}
use Rattle.predicates.specs.declared.pred.PredCond.TheVariants as is
use Rattle.pred_text.specs.declared.fault.PredKind.{PredKind}
use Rattle.pred_text.specs.declared.fault.PredKind.TheVariants as kind

-- ---- bytes

-- a space or LF
abbrev pub is_blank : ℕ → Bool
is_blank b = nat_eq b 32 || nat_eq b 10

-- `(` or `)`
abbrev pub is_paren : ℕ → Bool
is_paren b = nat_eq b 40 || nat_eq b 41

-- a byte that ends a run
abbrev pub ends_run : ℕ → Bool
ends_run b = is_blank b || is_paren b

-- ---- tokens

-- a token, and its offset
pub record Token : Type 0 where
  pub at : ℕ
  pub word : List ℕ

-- the longest run from here
abbrev pub run_of : List ℕ → List ℕ
run_of bytes = take (position_or_len ends_run bytes) bytes

-- The tokens of bytes that begin at an offset, behind a byte of a run or not: a run begins behind none, and is as long as can be.
abbrev pub tokens : Bool → ℕ → List ℕ → List Token
tokens in_run at [] = []
tokens in_run at (b ∷ bs) =
    if is_blank b then tokens false (at + 1) bs
    else if is_paren b then record { at = at; word = b ∷ [] } ∷ tokens false (at + 1) bs
    else if in_run then tokens true (at + 1) bs
    else record { at = at; word = run_of (b ∷ bs) } ∷ tokens true (at + 1) bs

-- ---- words

abbrev pub is_open : List ℕ → Bool
is_open word = bytes_eq word (codes "(")

abbrev pub is_shut : List ℕ → Bool
is_shut word = bytes_eq word (codes ")")

-- the comparison of a word
unfoldable pub cond_of : List ℕ → Option PredCond
cond_of word =
    if bytes_eq word (codes "eq") then Some is.Eq
    else if bytes_eq word (codes "ne") then Some is.Ne
    else if bytes_eq word (codes "gt") then Some is.Gt
    else if bytes_eq word (codes "ge") then Some is.Ge
    else if bytes_eq word (codes "lt") then Some is.Lt
    else if bytes_eq word (codes "le") then Some is.Le
    else None

-- ---- the words for the kinds of faults

abbrev pub fault_word : PredKind → List ℕ
fault_word kind.Nodes = codes "nodes"
fault_word kind.Number = codes "number"
fault_word kind.Form = codes "form"
