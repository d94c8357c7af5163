-- What the code of a world has, and the world that it shows.
use Rattle.std.specs.Prelude.{◌≡◌, ℕ, ◌==◌, ◌&&◌, ◌||◌, Bool, false, not, List, [], is_some, is_none, length, nat_lt, map, Option, Some, None, option_map, slice_get}
use Rattle.std.specs.VecDeque.{deque_items}
use Rattle.sync_session.specs.Kept.{Kept, frame_of, seen}
use Rattle.byzantine_world.specs.declared.talk.Side.{Side}
use Rattle.byzantine_world.specs.declared.talk.Talk.{Talk}
use Rattle.byzantine_world.specs.declared.talk.Talk.TheVariants as talks
use Rattle.world_rules.specs.Meetings.{EndData}
use Rattle.world_rules.specs.Worlds as worlds
use Rattle.world_rules.specs.Worlds.{SiteData, SessionOf, WorldData, flat, held_by}

-- ---- words over the code's sessions

-- an end that begins with this session
abbrev pub side_of : Kept → Side
side_of session = record { session = session; ended = None; is_cut = false }

abbrev pub is_over_code : Side → Bool
is_over_code side = is_some side.ended || side.is_cut

abbrev pub is_over_talk : Talk → Bool
is_over_talk (talks.Both both) = is_over_code both.a && is_over_code both.b
is_over_talk (talks.Liar liar) = is_over_code liar.end

-- a number of a world at which no session was started
abbrev pub is_free_in : List (Option Talk) → ℕ → Bool
is_free_in sessions s = nat_lt s (length sessions) && is_none (flat (slice_get sessions s))

-- an end is cut, unless it has ended
abbrev pub cut_code : Side → Side
cut_code side = record side { is_cut = side.is_cut || not (is_some side.ended) }

abbrev pub cut_talk : Talk → Talk
cut_talk (talks.Both both) = talks.Both (record both { a = cut_code both.a; b = cut_code both.b })
cut_talk (talks.Liar liar) = talks.Liar (record liar { end = cut_code liar.end })

abbrev pub takes_part_in : ℕ → Talk → Bool
takes_part_in r (talks.Both both) = (both.first == r) || (both.second == r)
takes_part_in r (talks.Liar liar) = liar.first == r

-- ---- the world that they are

abbrev pub list_of : Option SiteData → List (List ℕ)
list_of None = []
list_of (Some site) = held_by site

-- what the replica with this number holds
abbrev pub list_at : List SiteData → ℕ → List (List ℕ)
list_at sites r = list_of (slice_get sites r)

-- an end over the list of its replica
abbrev pub end_over : List SiteData → ℕ → Side → EndData
end_over sites r side = record { state = seen (list_at sites r) side.session; is_cut = side.is_cut }

-- a session over the lists of its replicas
abbrev pub talk_over : List SiteData → Talk → SessionOf
talk_over sites (talks.Both both) = worlds.Both (record {
  first = both.first;
  second = both.second;
  a = end_over sites both.first both.a;
  b = end_over sites both.second both.b;
  to_a = map frame_of (deque_items both.to_a);
  to_b = map frame_of (deque_items both.to_b);
})
talk_over sites (talks.Liar liar) = worlds.Liar (record { first = liar.first; end = end_over sites liar.first liar.end; fed = liar.frames })

-- The code has the replicas of this world, and its sessions over their lists. What was signed, what was met and the number of the
-- next event are for the theorems alone, and no code keeps them.
pub record Shows (sites : List SiteData) (sessions : List (Option Talk)) (w : WorldData) : Type 0 where
  pub sites_are : w.sites ≡ sites
  pub sessions_are : w.sessions ≡ map (option_map (talk_over sites)) sessions

-- What the code of a world has: its replicas, its sessions by number, and whether it is over, since memory ran out.
pub record WorldCode : Type 0 where
  pub sites : List SiteData
  pub talks : List (Option Talk)
  pub is_over : Bool

-- the code is that of this world
abbrev pub ShowsWorld : WorldCode → WorldData → Type 0
ShowsWorld code w = Shows code.sites code.talks w
