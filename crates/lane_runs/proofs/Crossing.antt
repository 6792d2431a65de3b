-- A system may go to another thread where its dies and its jobs may.
use denote.RattleType.{RattleType}
use denote.Struct.Declared.{shape}
use denote.Param.Send.{IsSend, IsSync, struct_send, sendable}
use Rattle.std.proofs.Crossing.{crosses, Vec-send}
use Rattle.system_state.specs.contracts.dies.Trip as Trip
use Rattle.system_state.specs.contracts.dies.Slot as Slot
use Rattle.system_state.specs.contracts.rack.Rack as Rack
use Rattle.system_state.specs.contracts.lanes.Call as Call
use Rattle.system_state.specs.contracts.lanes.Claim as Claim
use Rattle.system_state.specs.contracts.lanes.Phase as Phase
use Rattle.system_state.specs.contracts.lanes.Frame as Frame
use Rattle.system_state.specs.contracts.state.State as State
use Rattle.lambda_system.specs.contracts.system.System as System
use Rattle.system_state.specs.contracts.state.Function as Function
use Rattle.coherence.specs.contracts.flags.Flags as Flags
use Rattle.coherence.specs.contracts.pair.Pair as Pair
use Rattle.page_cache.specs.contracts.cache.Cache as Cache
use Rattle.page_base.specs.contracts.page.Page as Page
use Rattle.image_format.specs.contracts.meta.Meta as Meta
use Rattle.image_format.specs.contracts.bits.Bits as Bits
use Rattle.name_table.specs.contracts.files.FileRec as FileRec
use Rattle.name_table.specs.contracts.files.Names as Names
use Rattle.name_table.specs.contracts.index.NameIndex as NameIndex
use Rattle.name_table.specs.contracts.naming.Name as Name
use Rattle.extent_map.specs.contracts.map.ExtentMap as ExtentMap
use Rattle.sbpf_insn.specs.contracts.code.Code as Code
use Rattle.sbpf_insn.specs.contracts.insn.Insn as Insn
use Rattle.range_locks.specs.contracts.range.Range as Range
use Rattle.range_locks.specs.contracts.ranges.Ranges as Ranges
use Rattle.plain_files.specs.contracts.calls.Request as Request
use Rattle.plain_files.specs.contracts.calls.Numbered as Numbered
use Rattle.crews.specs.contracts.post.Post as Post
use Rattle.turn_cell.specs.contracts.pass.Pass as Pass
use Rattle.turn_cell.specs.contracts.turn.Turn as Turn
use Rattle.turn_cell.specs.declared.book.Book as Book
use Rattle.atomic_table.proofs.shared.Seat.TheSendSync.{the_send as seat}
use Rattle.atomic_table.proofs.shared.Shared.TheSendSync.{the_sync as shared}
use Rattle.atomic_table.proofs.send_lease.SendLease.TheSendSync.{the_sync as lease}
use Rattle.core_state.specs.contracts.actor.Actor as Actor
use Rattle.index_lists.specs.contracts.links.Links as Links

links_send : IsSend (Links.the_field).row
links_send = search (sendable, crosses) depth 20

pub page_send : IsSend (Page.the_field).row
page_send = search (sendable, crosses) depth 20

page_row : IsSend Page.the_row
page_row = search (sendable, crosses) depth 20

cache_send : IsSend (Cache.the_field).row
cache_send = let p = page_row in let l = links_send in search (sendable, crosses) depth 20

flags_row : IsSend Flags.the_row
flags_row = search (sendable, crosses) depth 20

pair_send : IsSend (Pair.the_field).row
pair_send = let c = cache_send in let f = flags_row in let l = links_send in let p = page_send in search (sendable, crosses) depth 20

range_row : IsSend Range.the_row
range_row = search (sendable, crosses) depth 20

ranges_send : IsSend (Ranges.the_field).row
ranges_send = let r = range_row in let l = links_send in search (sendable, crosses) depth 20

name_send : IsSend (Name.the_field).row
name_send = search (sendable, crosses) depth 20

insn_row : IsSend Insn.the_row
insn_row = search (sendable, crosses) depth 60 fits 20000

code_send : IsSend (Code.the_field).row
code_send = let i = insn_row in search (sendable, crosses) depth 20

function_row : IsSend Function.the_row
function_row = let n = name_send in let c = code_send in search (sendable, crosses) depth 20

file_row : IsSend FileRec.the_row
file_row = let n = name_send in search (sendable, crosses) depth 20

index_send : IsSend (NameIndex.the_field).row
index_send = search (sendable, crosses) depth 20

names_send : IsSend (Names.the_field).row
names_send = let f = file_row in let i = index_send in search (sendable, crosses) depth 20

extents_send : IsSend (ExtentMap.the_field).row
extents_send = search (sendable, crosses) depth 20

bits_send : IsSend (Bits.the_field).row
bits_send = search (sendable, crosses) depth 20

meta_send : IsSend (Meta.the_field).row
meta_send = let n = names_send in let e = extents_send in let b = bits_send in search (sendable, crosses) depth 20

claim_send : IsSend Claim.the_row
claim_send = search (sendable, crosses) depth 20

phase_send : IsSend Phase.the_row
phase_send = search (sendable, crosses) depth 20

frame_send : IsSend Frame.the_row
frame_send = search (sendable, crosses) depth 20

pub call_send : IsSend (Call.the_field).row
call_send = let a = claim_send in let b = phase_send in let f = frame_send in search sendable depth 20

module _ (D : RattleType) (s : IsSend D) where
  trip_send : IsSend (Trip.the_row D)
  trip_send = search (sendable, crosses) depth 20

  slot_send : IsSend (Slot.the_row D)
  slot_send = search (sendable, crosses) depth 20

  pub slots_send : IsSend (Rack.the_field D).row
  slots_send = let a = Vec-send (Slot.the_row D) slot_send in search sendable depth 20

module _ (D J : RattleType) (s : IsSend D) (t : IsSend J) where
  pub state_send : IsSend (State.the_field D J).row
  state_send =
      let c = call_send in
      let r = slots_send D s in
      let p = pair_send in
      let m = meta_send in
      let f = function_row in
      let g = ranges_send in
      struct_send (shape (State.the_type D J)) (
        search (sendable, crosses) depth 20,
        (
          search (sendable, crosses) depth 20,
          (
            search (sendable, crosses) depth 20,
            (
              search (sendable, crosses) depth 20,
              (
                search (sendable, crosses) depth 20,
                (
                  search (sendable, crosses) depth 20,
                  (
                    search (sendable, crosses) depth 20,
                    (
                      search (sendable, crosses) depth 20,
                      (
                        search (sendable, crosses) depth 20,
                        (
                          search (sendable, crosses) depth 20,
                          (
                            search (sendable, crosses) depth 20,
                            (
                              search (sendable, crosses) depth 20,
                              (
                                search (sendable, crosses) depth 20,
                                (
                                  search (sendable, crosses) depth 20,
                                  (
                                    search (sendable, crosses) depth 20,
                                    (
                                      search (sendable, crosses) depth 20,
                                      (
                                        search (sendable, crosses) depth 20,
                                        (
                                          search (sendable, crosses) depth 20,
                                          tt,
                                        ),
                                      ),
                                    ),
                                  ),
                                ),
                              ),
                            ),
                          ),
                        ),
                      ),
                    ),
                  ),
                ),
              ),
            ),
          ),
        ),
      )

  pub system_send : IsSend (System.the_field D J).row
  system_send = let s = state_send in search sendable depth 20

pub request_row : IsSend Request.the_row
request_row = search (sendable, crosses) depth 60 fits 20000

pub numbered_row : IsSend Numbered.the_row
numbered_row = search (sendable, crosses) depth 60 fits 20000

pub pass_send : (B O E : RattleType) → IsSend B → IsSend (Pass.the_field B O E).row
pass_send B O E s = search (sendable, crosses, seat) depth 20

actor_send : IsSend (Actor.the_field).row
actor_send = search (sendable, crosses) depth 20

pub post_send : (D J : RattleType) → IsSend D → IsSend J → IsSend (Post.the_field D J).row
post_send D J s t =
    let a = system_send D J s t in
    struct_send (shape (Post.the_type D J)) (
      search (sendable, crosses, seat) depth 20,
      (
        search (sendable, crosses) depth 20,
        (
          search (sendable, crosses, request_row) depth 20,
          (
            search (sendable, crosses, numbered_row) depth 20,
            (search (sendable, crosses, page_send) depth 20, tt),
          ),
        ),
      ),
    )

pub turn_sync : (B O E : RattleType) (g : Book.Ghosts B.Denot O.Denot E.Denot) → IsSend B → IsSync (Turn.the_field B O E g).row
turn_sync B O E g s = search (sendable, crosses, shared, lease) depth 20

pub turn_of_system : (D J O E : RattleType) (g : Book.Ghosts (System.the_row D J).Denot O.Denot E.Denot) → IsSend D → IsSend J → IsSync (Turn.the_field (System.the_row D J) O E g).row
turn_of_system D J O E g s t = let a = system_send D J s t in turn_sync (System.the_row D J) O E g (search sendable depth 20)
