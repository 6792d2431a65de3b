-- Every kind of event.
use Rattle.core_quick.specs.Event.{Event}
use Rattle.core_quick.specs.Event.TheVariants.{Enter, Leave, Quick, Skip, Begin, Copy, Take, DieOut, FillIn, Submit, Fetch, Report, End, Evict, Demote, FlushOut, FlushIn, MetaIn}
use Rattle.core_hold.specs.Keeps.{HoldsAfter}
use Rattle.core_hold.proofs.Lanes.{enter_holds, leave_holds, skip_holds, begin_holds}
use Rattle.core_hold.proofs.Phases.{submit_holds, fetch_holds, report_hands_back}
use Rattle.core_hold.proofs.Outward.{die_out_holds, flush_out_holds}
use Rattle.core_hold.proofs.Copies.{copy_holds, take_holds, evict_holds, demote_holds}
use Rattle.core_hold.proofs.Homeward.{fill_in_holds, flush_in_holds, meta_in_holds}
use Rattle.core_hold.proofs.Quicks.{quick_holds}
use Rattle.core_hold.proofs.Ends.{end_holds}

pub each_holds : (e : Event) → HoldsAfter e
each_holds (Enter lane) = enter_holds lane
each_holds (Leave lane) = leave_holds lane
each_holds (Quick lane request reply) = quick_holds lane request reply
each_holds (Skip lane request fault) = skip_holds lane request fault
each_holds (Begin lane request side) = begin_holds lane request side
each_holds (Copy actor lane i) = copy_holds actor lane i
each_holds (Take actor lane i) = take_holds actor lane i
each_holds (DieOut actor die purpose) = die_out_holds actor die purpose
each_holds (FillIn actor die good) = fill_in_holds actor die good
each_holds (Submit lane) = submit_holds lane
each_holds (Fetch worker lane) = fetch_holds worker lane
each_holds (Report worker lane) = report_hands_back worker lane
each_holds (End lane request reply) = end_holds lane request reply
each_holds (Evict actor side block) = evict_holds actor side block
each_holds (Demote actor block) = demote_holds actor block
each_holds (FlushOut actor die block) = flush_out_holds actor die block
each_holds (FlushIn actor die good left) = flush_in_holds actor die good left
each_holds (MetaIn actor die good left) = meta_in_holds actor die good left
