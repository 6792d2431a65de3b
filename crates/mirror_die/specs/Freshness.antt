-- On which copies of a mirror a page is fresh. This project's own.
use Rattle.std.specs.Prelude.{ℕ, Bool, true, false, List, sum_by}
use Rattle.mirror_die.specs.declared.freshness.Fresh.{Fresh}
use Rattle.mirror_die.specs.declared.freshness.Fresh.TheVariants.{OnBoth, OnFirst, OnSecond}

-- the first copy has the page's bytes
abbrev pub is_on_first : Fresh → Bool
is_on_first OnBoth = true
is_on_first OnFirst = true
is_on_first OnSecond = false

-- the second copy has the page's bytes
abbrev pub is_on_second : Fresh → Bool
is_on_second OnBoth = true
is_on_second OnFirst = false
is_on_second OnSecond = true

-- after a write that the first and the second copy took or failed; where both failed, on the first alone
abbrev pub after_write : Bool → Bool → Fresh
after_write true true = OnBoth
after_write true false = OnFirst
after_write false true = OnSecond
after_write false false = OnFirst

-- one where the page is fresh on one copy alone, and else none
abbrev pub alone : Fresh → ℕ
alone OnBoth = 0
alone OnFirst = 1
alone OnSecond = 1

-- how many pages are fresh on one copy alone
abbrev pub stale_of : List Fresh → ℕ
stale_of fresh = sum_by alone fresh
