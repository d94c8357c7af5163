-- What is remembered where no session is done.
use Rattle.std.proofs.Common.{◌≡◌, ℕ, ◌==◌, ◌||◌, Bool, true, false, List, [], ◌∷◌, Option, refl, sym, ◌∙◌}
use Rattle.std.proofs.lemmas.Bool.{true≢false}
use Rattle.update_model.specs.declared.update_id.UpdateId.{UpdateId}
use Rattle.peer_memory.specs.declared.peer.Peer.{Peer}
use Rattle.session_server.specs.declared.ending.Ending.{Ending}
use Rattle.session_server.specs.declared.ending.Ending.TheVariants.{Done, Peer as BadPeer, Cut, Full, Broken, Store, Memory}
use Rattle.session_server.specs.declared.served.Served.{Served}
use Rattle.schema_verdict.specs.declared.status.TheConstants.{DONE}
use Rattle.net_commands.specs.Meetings.{RemembersAll, RemembersOne, RemembersSessions}
use Rattle.net_commands.specs.Words.{has_status, exit_status}

neither : (x y : Bool) → x || y ≡ false → (x ≡ false) × (y ≡ false)
neither true y e = absurd (true≢false e)
neither false y e = (refl, e)

none_by : (peers : List Peer) (ending : Ending) (node : Option (List ℕ)) (ids : List UpdateId) → (exit_status ending == DONE) ≡ false → RemembersOne peers ending node ids peers
none_by peers Done whose ids is = absurd (cc (is))
none_by peers (BadPeer fault) whose ids is = refl
none_by peers Cut whose ids is = refl
none_by peers Full whose ids is = refl
none_by peers Broken whose ids is = refl
none_by peers Store whose ids is = refl
none_by peers Memory whose ids is = refl

none_done : (peers : List Peer) (sessions : List Served) → has_status DONE sessions ≡ false → RemembersAll peers sessions peers
none_done peers [] is = refl
none_done peers (s ∷ others) is =
    let both = neither (exit_status s.ending == DONE) (has_status DONE others) is in
    (peers, none_by peers s.ending s.peer s.heads both.0, none_done peers others both.1)

pub remembers_none : (peers : List Peer) (sessions : List Served) (memory : List ℕ) → has_status DONE sessions ≡ false → RemembersSessions peers sessions memory memory
remembers_none peers sessions memory is =
    record { peers_new = peers; all = none_done peers sessions is; written = λ some. absurd (true≢false (sym some ∙ is)); stays = λ e. refl }
