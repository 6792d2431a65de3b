-- A room and a sink in memory, and what each call makes of them. This project's own.
use Rattle.std.specs.Prelude.{ℕ, ◌+◌, ◌-◌, ◌^◌, min, max, Bool, ◌&&◌, ◌||◌, ◌==◌, nat_lt, List, [], ◌∷◌, ◌++◌, length, bytes_eq, if◌then◌else◌, Some, None, is_some}
use Rattle.std.specs.List.{list_any}
use Rattle.edge_io.specs.Edges.{Names}

-- files by their names, the numbers of the reads and of the writes that fail, how many of each were made, and how many failed
pub record RoomState : Type 0 where
  pub files : List (List ℕ × List ℕ)
  pub fail_reads : List ℕ
  pub fail_writes : List ℕ
  pub reads : ℕ
  pub writes : ℕ
  pub faults : ℕ

-- the bytes so far, how many there is room for in all, the numbers of the writes that fail, how many were made, and how many failed
pub record SinkState : Type 0 where
  pub bytes : List ℕ
  pub room : ℕ
  pub fail : List ℕ
  pub writes : ℕ
  pub faults : ℕ

-- the bytes of the first entry of the name
abbrev pub entry : List (List ℕ × List ℕ) → Names
entry [] name = None
entry (file ∷ files) name = if bytes_eq file.0 name then Some file.1 else entry files name

-- how many entries stand before the first one of the name
abbrev pub place : List (List ℕ × List ℕ) → List ℕ → ℕ
place [] name = 0
place (file ∷ files) name = if bytes_eq file.0 name then 0 else 1 + place files name

-- one more, where 2^64 - 1 is the end
abbrev pub one_more : ℕ → ℕ
one_more count = max count (min (count + 1) (2 ^ 64 - 1))

-- the number is in the list
abbrev pub is_listed : ℕ → List ℕ → Bool
is_listed number numbers = list_any (λ n. n == number) numbers

-- the next read fails: the name is there, and the number of the read is listed
abbrev pub read_fails : RoomState → List ℕ → Bool
read_fails room name = is_some (entry room.files name) && is_listed (one_more room.reads) room.fail_reads

abbrev pub after_read : RoomState → List ℕ → RoomState
after_read room name = record room {
  reads = one_more room.reads;
  faults = (if read_fails room name then one_more room.faults else room.faults);
}

-- the next write fails: its number is listed
abbrev pub write_fails : RoomState → Bool
write_fails room = is_listed (one_more room.writes) room.fail_writes

-- but for the files
abbrev pub after_write : RoomState → RoomState
after_write room = record room {
  writes = one_more room.writes;
  faults = (if write_fails room then one_more room.faults else room.faults);
}

abbrev pub room_left : SinkState → ℕ
room_left sink = sink.room - length sink.bytes

-- the next write fails: its number is listed, or it has bytes and no room is left
abbrev pub is_refused : SinkState → List ℕ → Bool
is_refused sink piece = is_listed (one_more sink.writes) sink.fail || (room_left sink == 0 && nat_lt 0 (length piece))

abbrev pub after_refusal : SinkState → SinkState
after_refusal sink = record sink { writes = one_more sink.writes; faults = one_more sink.faults }

abbrev pub after_taking : SinkState → List ℕ → SinkState
after_taking sink piece = record sink { bytes = sink.bytes ++ piece; writes = one_more sink.writes }
