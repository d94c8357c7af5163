-- What a net hands out and takes back.
use Rattle.std.specs.Prelude.{◌≡◌, ℕ, ◌+◌, ◌-◌, List, [], ◌∷◌, ◌++◌, Option, Some, None, Result}
use Rattle.bec_bytes.specs.Causes.{faults_after}

-- What a net tells: the bytes of each link that is still to come, and those that were put on each link that came back, both
-- in order, or `None` where it does not tell them; how many links are out; and how many of its calls failed.
pub record NetState : Type 0 where
  pub coming : Option (List (List ℕ))
  pub given : Option (List (List ℕ))
  pub out : ℕ
  pub failed : ℕ

-- The net after a call that handed no link out. It counts one that failed.
abbrev pub after_try : {T E : Type 0} → Result T E → NetState → NetState
after_try result net = record net { failed = faults_after result net.failed }

-- The link is the first of those to come, where they are told: it gives the bytes that were told, and nothing was put on it.
abbrev pub IsFirst : Option (List (List ℕ)) → Option (List ℕ) → Option (List ℕ) → Option (List (List ℕ)) → Type 0
IsFirst None left held rest = rest ≡ None
IsFirst (Some coming) left held rest =
    (bytes : List ℕ) × (others : List (List ℕ)) × (coming ≡ bytes ∷ others) × (left ≡ Some bytes) × (held ≡ Some []) × (rest ≡ Some others)

-- A link was handed out that has these bytes left and these put on it.
pub record HandsOut (old : NetState) (left held : Option (List ℕ)) (new : NetState) : Type 0 where
  pub first : IsFirst old.coming left held new.coming
  pub given : new.given ≡ old.given
  pub out : new.out ≡ old.out + 1
  pub failed : new.failed ≡ old.failed

-- What was put on each link that came back, with that of one more: told where both are.
abbrev pub with_held : Option (List (List ℕ)) → Option (List ℕ) → Option (List (List ℕ))
with_held None held = None
with_held (Some given) None = None
with_held (Some given) (Some held) = Some (given ++ held ∷ [])

-- The net after a link came back with this put on it.
abbrev pub taken_back : NetState → Option (List ℕ) → NetState
taken_back net held = record net { given = with_held net.given held; out = net.out - 1 }
