-- What each event does to the caches and flags. This project's own: a copy that is read or put in goes last in its side's
-- order, and an unclean block that is written or put back goes last in the unclean order.
use Rattle.std.specs.Prelude.{ℕ, ◌+◌, ◌==◌, ◌&&◌, if◌then◌else◌, Bool, true, false, List, Option, Some, None, set}
use Rattle.page_base.specs.Bytes.{zero_page}
use Rattle.index_lists.specs.Words.{without, last}
use Rattle.page_cache.specs.Cached.{Cached, copy_at, with_page, without_page, used_now}
use Rattle.dispatcher.specs.declared.side.Side.{Side}
use Rattle.coherence.specs.Paired.{Paired, by_side, other, cache_at, flags_at}

-- this page if there is one, else that one
abbrev pub page_or : Option (List ℕ) → List ℕ → List ℕ
page_or (Some p) q = p
page_or None q = q

-- what a call at a side reads of the block: the copy there before that of the other side, else zeros
abbrev pub copy_of : Side → Paired → ℕ → List ℕ
copy_of side s b = page_or (copy_at (cache_at side s) b) (page_or (copy_at (cache_at (other side) s) b) zero_page)

-- the cache of the side that reads, by what copy it has and what copy the other side has
abbrev pub read_by : Option (List ℕ) → Option (List ℕ) → Cached → ℕ → Cached
read_by (Some p) there c b = used_now c b
read_by None (Some p) c b = with_page c b p
read_by None None c b = c

-- the cache of the other side, by the same
abbrev pub read_from : Option (List ℕ) → Option (List ℕ) → Cached → ℕ → Cached
read_from (Some p) there c b = c
read_from None (Some p) c b = used_now c b
read_from None None c b = c

-- these caches at a side and at the other one
abbrev pub with_caches : Side → Cached → Cached → Paired → Paired
with_caches side here there s = record s { host = by_side side here there; drive = by_side side there here }

-- a call at a side reads the block: a copy that the other side alone has is put in here too
abbrev pub copied : Side → Paired → ℕ → Paired
copied side s b =
    with_caches side
    (read_by (copy_at (cache_at side s) b) (copy_at (cache_at (other side) s) b) (cache_at side s) b)
    (read_from (copy_at (cache_at side s) b) (copy_at (cache_at (other side) s) b) (cache_at (other side) s) b) s

-- the block is lent: its copies go
abbrev pub taken : Paired → ℕ → Paired
taken s b = record s { host = without_page s.host b; drive = without_page s.drive b; unclean = without b s.unclean }

-- the block is written: this page is its only copy, it is unclean, and it has a new version
abbrev pub installed : Side → Paired → ℕ → List ℕ → Paired
installed side s b page = record s {
  host = by_side side (with_page s.host b page) (without_page s.host b);
  drive = by_side side (without_page s.drive b) (with_page s.drive b page);
  flags = set s.flags b (record (flags_at s b) { clean = false; version = (flags_at s b).version + 1 });
  unclean = last b s.unclean;
}

-- the page goes in at a side
abbrev pub filled : Side → Paired → ℕ → List ℕ → Paired
filled side s b page = record s { host = by_side side (with_page s.host b page) s.host; drive = by_side side s.drive (with_page s.drive b page) }

-- a lent page goes back at a side
abbrev pub put_back_at : Side → Paired → ℕ → List ℕ → Paired
put_back_at side s b page = record (filled side s b page) { unclean = if (flags_at s b).clean then s.unclean else last b s.unclean }

-- the copy at a side goes
abbrev pub evicted : Side → Paired → ℕ → Paired
evicted side s b = record s { host = by_side side (without_page s.host b) s.host; drive = by_side side s.drive (without_page s.drive b) }

-- the host's copy, which is this page, moves to the drive
abbrev pub demoted : Paired → ℕ → List ℕ → Paired
demoted s b page = record s { host = without_page s.host b; drive = with_page s.drive b page }

-- a write of the page of this version succeeded or failed
abbrev pub flushed_in : Paired → ℕ → ℕ → Bool → Paired
flushed_in s b version written =
    if written && (version == (flags_at s b).version)
    then record s { flags = set s.flags b (record (flags_at s b) { clean = true; written = true }); unclean = without b s.unclean }
    else s

-- the block is released or allocated
abbrev pub released : Paired → ℕ → Paired
released s b = record s {
  host = without_page s.host b;
  drive = without_page s.drive b;
  flags = set s.flags b (record { clean = true; written = false; version = (flags_at s b).version + 1 });
  unclean = without b s.unclean;
}

-- flash has content of the block
abbrev pub started : Paired → ℕ → Paired
started s b = record s { flags = set s.flags b (record (flags_at s b) { written = true }) }
