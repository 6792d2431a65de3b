-- The core of a state has the state's tables.
use Rattle.std.proofs.Common.{◌≡◌, ℕ, None, refl, sym, ◌∙◌, arith}
use Rattle.flash_die.specs.Dies.{DieView}
use Rattle.name_table.specs.Files.{IsTable}
use Rattle.extent_map.specs.Places.{IsSound}
use Rattle.core_solo.specs.Stored.{IsAllStored}
use Rattle.system_state.specs.Jobs.{JobView}
use Rattle.system_state.specs.Cores.{core_of}
use Rattle.system_state.specs.Stands.{IsStanding}
use Rattle.system_state.specs.Settled.{Settled}
use Rattle.system_state.specs.declared.state.State.{State}
use Rattle.system_state.proofs.Standing.{stands_coherent}
use Rattle.system_metas.specs.Encode.{encode}
use Rattle.core_images.specs.Tables.{HasTables}
use Rattle.core_images.proofs.Mounts.{settled}

module _ {D J : Type 0} (seen : D → DieView) (suits : J → JobView → Type 0) where
  pub state_has : (s : State D J) → IsStanding seen suits s → HasTables s.meta (core_of seen s)
  state_has s k =
      let kept = k.stands.kept in
      record {
        blocks = sym kept.tables.blocks;
        dies = sym kept.tables.dies;
        files = refl;
        next = refl;
        extents = kept.tables.extents ∙ sym kept.tables.blocks;
        places = refl;
        count = kept.caches.marks ∙ sym kept.tables.blocks;
        written = λ b l. sym (kept.caches.written b (let e = kept.tables.blocks in omega arith));
      }

  pub state_settles : (s : State D J) → IsStanding seen suits s → IsTable s.meta.names → IsSound s.meta.extents → IsAllStored encode (core_of seen s) → ((lane : ℕ) → (core_of seen s).calls lane ≡ None)
      → ((die : ℕ) → ((core_of seen s).dies die).out ≡ None) → Settled seen s
  state_settles s k table sound stored calls home = settled s.meta (core_of seen s) (state_has s k) table sound (stands_coherent seen suits s k.o k.h k.stands) stored calls home
