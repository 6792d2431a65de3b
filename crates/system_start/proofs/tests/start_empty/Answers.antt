use Rattle.std.proofs.Common.{[], Result, Ok, Err}
use Rattle.std.specs.Prelude.{IfOk}
use Rattle.system_start.specs.Started.{image_in, pages_of}
use Rattle.system_start.proofs.tests.start_empty.Goals as goal

if_ok : {X E : Type 0} (P Q : X → Type 0) (r : Result X E) → ((x : X) → P x → Q x) → IfOk r P → IfOk r Q
if_ok P Q (Ok x) f h = f x h
if_ok P Q (Err e) f h = tt

pub returns-clause-standing : goal.returns-clause-standing
returns-clause-standing c = if_ok _ _ c.start.result (λ s h. record { o = s; h = []; stands = h }) c.start.ensures.stands

pub returns-clause-core : goal.returns-clause-core
returns-clause-core c = if_ok _ _ c.start.result (λ s e. (image_in c.in_ok-meta.meta (pages_of _ c.in_ok-dies.dies.items), e)) c.start.ensures.core
