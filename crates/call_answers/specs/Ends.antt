-- What the end of a call gives, by what is held of the call and of its file. This project's own.
use Rattle.std.specs.Prelude.{◌≡◌, ℕ, ◌+◌, ◌*◌, ◌%◌, ◌<◌, ◌==◌, nat_le, max, Bool, true, false, List, length, take, get_or, sum_by, if◌then◌else◌, Option, Some, None}
use Rattle.page_base.specs.Bytes.{Pages, zero_page, cleared_from}
use Rattle.sbpf_insn.specs.Machine as machine
use Rattle.plain_files.specs.declared.calls.Reply.{Reply}
use Rattle.plain_files.specs.declared.calls.Reply.TheVariants.{Done, NoSpace, TrapAccess, TrapDepth, Spent}
use Rattle.plain_files.specs.Plain.{first_bytes, answer}
use Rattle.span_bytes.specs.Spans.{page_in, over}
use Rattle.core_state.specs.State.{File, Flight, Core}
use Rattle.core_state.specs.Contents.{contents, page_of, span_block}
use Rattle.core_state.specs.Reach.{gathers}
use Rattle.core_state.specs.PlainOf.{plain, bytes_by_id, page_at}
use Rattle.core_state.specs.EndEvent.{has_changed}

-- how many pages all files fill
abbrev pub filled : List File → ℕ
filled files = sum_by (λ (f : File). Pages f.len) files

-- how long a file is once so many bytes are put at an offset
abbrev pub put_length : ℕ → ℕ → ℕ → ℕ
put_length len off n = if n == 0 then len else max len (off + n)

-- all files fit, once a file of a length has another one
abbrev pub has_room : ℕ → ℕ → ℕ → ℕ → Bool
has_room pages capacity old new = nat_le (pages + Pages new) (capacity + Pages old)

-- the reply to a `readl`, by how its function ended
abbrev pub read_reply : ℕ → machine.Outcome → Reply
read_reply cap (machine.Ended r0 output used) = first_bytes cap (record { r0 = r0; output = output })
read_reply cap (machine.AccessTrap address size slot used) = TrapAccess address size slot
read_reply cap (machine.DepthTrap slot used) = TrapDepth slot
read_reply cap machine.Spent = Spent

-- a list of pages has those that the call gathers
abbrev pub HasGathers : Core → Flight → List (List ℕ) → Type 0
HasGathers c call pages =
    (i : ℕ) → i < call.claim.reach.pages → gathers call.claim.request.call call.claim.reach i ≡ true → get_or pages i zero_page ≡ page_of (contents c.blocks) (span_block c.places call.claim i)

-- after the end the call's file is so long, and these are the pages of its span
pub record Lands (c : Core) (call : Flight) (len : ℕ) (pages : List (List ℕ)) : Type 0 where
  pub len_is : len ≡ length (bytes_by_id (answer (plain c) call.claim.request.call).state call.claim.file)
  pub pages_are : (i : ℕ) → i < call.claim.reach.pages → get_or pages i zero_page ≡ page_at (bytes_by_id (answer (plain c) call.claim.request.call).state call.claim.file) (call.claim.reach.first + i)

-- What a call in flight without a mark ends with: Answer's reply, and its file as Answer leaves it; where it stores nothing, its gathered
-- pages are those that it took.
pub record EndsAs (c : Core) (call : Flight) (reply : Reply) (len : ℕ) (pages : List (List ℕ)) : Type 0 where
  pub reply_is : reply ≡ (answer (plain c) call.claim.request.call).reply
  pub stores : has_changed call reply ≡ true → Lands c call len pages
  pub back : has_changed call reply ≡ false → (i : ℕ) (p : List ℕ) → i < call.claim.reach.pages → call.gathered i ≡ Some p → get_or pages i zero_page ≡ p

-- what is known of the pages of a call that has put bytes, or had no room for them
pub record Puts (c : Core) (call : Flight) (bytes : List ℕ) (off len : ℕ) (done reply : Reply) (new_len : ℕ) (old new : List (List ℕ)) : Type 0 where
  pub room : has_room (filled c.names.files) c.shape.blocks len (put_length len off (length bytes)) ≡ true → (reply ≡ done) × (new_len ≡ put_length len off (length bytes))
  pub full : has_room (filled c.names.files) c.shape.blocks len (put_length len off (length bytes)) ≡ false → (reply ≡ NoSpace) × (new ≡ old)
  pub bytes_are : has_room (filled c.names.files) c.shape.blocks len (put_length len off (length bytes)) ≡ true → (i j : ℕ) → i < call.claim.reach.pages → j < 4096 → get_or (page_in new i) j 0 ≡ over (off % 4096) bytes (4096 * i + j) (get_or (page_in old i) j 0)
  pub whole : has_room (filled c.names.files) c.shape.blocks len (put_length len off (length bytes)) ≡ true → (i : ℕ) → i < call.claim.reach.pages → length (page_in new i) ≡ 4096

-- what is known of the page of a call that has cut its file, or had no room
pub record Cuts (c : Core) (call : Flight) (n len : ℕ) (reply : Reply) (new_len : ℕ) (old new : List (List ℕ)) : Type 0 where
  pub room : has_room (filled c.names.files) c.shape.blocks len n ≡ true → (reply ≡ Done) × (new_len ≡ n)
  pub full : has_room (filled c.names.files) c.shape.blocks len n ≡ false → (reply ≡ NoSpace) × (new ≡ old)
  pub cleared : has_room (filled c.names.files) c.shape.blocks len n ≡ true → (i : ℕ) → i < call.claim.reach.pages → (page_in new i ≡ cleared_from (page_in old i) (n % 4096)) × (length (page_in old i) ≡ 4096) × (length (page_in new i) ≡ 4096)
