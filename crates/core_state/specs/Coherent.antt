-- What holds of the core between any two events. This project's own.
--
-- Each condition takes the components that it speaks of, so that an event that leaves them alone keeps it as it stands. What each says:
--
-- placed     The geometry is within its limits. Each file has a block for exactly its pages below Pages(length), and no block has
--            two places. A free block is clean and unwritten, without copy or loan. File names, ids and function names are distinct,
--            and ids are below the next id.
-- copies     Every copy and lent page of a block is its content.
-- clean      A clean block is written and its flash page is its content, or is unwritten and its content is zeros.
-- unclean    An unclean block has a copy or is lent.
-- lent       A lent block has no copy. It is a span page of one call in flight with an exclusive range, whose gathered page there
--            is the lent one.
-- locked     Two calls in flight whose locked ranges in one file have a page in common are both shared. The file and the function
--            of each call in flight are there.
-- in_flight  Each call in flight is a data call or a `sync`. Its file, span and locked range are those of its request in this core, and
--            nothing refuses it early. Only a call with a function has the drive as its side, and a call whose side is the host is held.
-- tails      Bytes of a file's last page past its length are zeros.
-- frames     For each side, copies, reserved frames and lent pages of its calls are at most its frames. An exclusive call has a copy,
--            a loan or a reserved frame at its side for each page of its span; a shared call has a reserved frame for each one that
--            isn't blank and has no copy there.
-- orders     The host and drive orders list the blocks with a copy there, each once; the unclean order lists the unclean blocks with
--            a copy, each once. The queue lists the queued calls, each once; a queued call has no mark and no gathered page; a worker
--            has at most one call.
-- dies       A flush that is out names a version not above the block's: where it is the block's, the block is unclean and the page is
--            its content; else the block is unclean or unwritten. A fill that is out names a call in flight and a page of its span, not
--            gathered, whose block is written, clean, without copy or loan. Each die that is out has the page that it is out for, and one
--            holder, which for a fill is the owner of its call; each actor holds at most one die. A lane that holds a die for a flush is
--            idle or has a `sync` in flight. The holder of a die for a meta page is a lane with a `sync` in flight, or the closer. A lane
--            is in flight exactly where a call is its own: calls stand by lane, and only a lane that has entered and not left has one.
-- gathered   A gathered page is the content of its block, or zeros where there is no block. The result of a reported call without a mark
--            is that of its function on the input and output that the plain machine builds.
use Rattle.std.specs.Prelude.{ℕ}
use Rattle.core_state.specs.State.{Core}
use Rattle.core_state.specs.Contents.{contents}
use Rattle.core_state.specs.PlainOf.{plain_of}
use Rattle.core_state.specs.Sound.{HasCopies, IsKept, IsInHand}
use Rattle.core_state.specs.Placed.{Placed, Tails}
use Rattle.core_state.specs.InFlight.{claims, Lent, Locked, InFlight}
use Rattle.core_state.specs.Frames.{Frames, Orders}
use Rattle.core_state.specs.Dies.{Dies, Gathered}

pub record Coherent (c : Core) : Type 0 where
  pub placed : Placed c.shape c.names c.places c.blocks
  pub copies : (b : ℕ) → HasCopies (c.blocks b)
  pub clean : (b : ℕ) → IsKept (c.blocks b)
  pub unclean : (b : ℕ) → IsInHand (c.blocks b)
  pub lent : Lent c.places c.calls c.blocks
  pub locked : Locked c.names (claims c.calls)
  pub in_flight : InFlight c.names (plain_of c.shape c.names c.places (contents c.blocks)) c.calls
  pub tails : Tails c.names c.places (contents c.blocks)
  pub frames : Frames c.shape c.places c.blocks c.host_order c.drive_order c.calls
  pub orders : Orders c.blocks c.host_order c.drive_order c.unclean c.queue c.lanes c.calls
  pub dies : Dies c.shape c.places c.blocks c.lanes c.calls c.dies
  pub gathered : Gathered c.places (contents c.blocks) (plain_of c.shape c.names c.places (contents c.blocks)) c.lanes c.calls
