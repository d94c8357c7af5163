-- What reading a piece of a link gives.
use Rattle.std.specs.Prelude.{◌≡◌, ◌⊎◌, ℕ, Bool, false, List, [], Option}
use Rattle.std.specs.Io.KnownBytes.{Consumes, IsAtEnd}
use Rattle.bec_bytes.specs.Causes.{Rose}
use Rattle.sync_frames.specs.declared.frame.Frame.{Frame}
use Rattle.sync_frames.specs.Fed.{FedData, Feeds}
use Rattle.session_rules.specs.Steps.{is_empty}
use Rattle.sync_frames.specs.Stream.{IsBroken}
use Rattle.link_frames.specs.declared.hearing.Heard.{Heard}
use Rattle.link_frames.specs.declared.hearing.Heard.TheVariants.{Frames, NoFrame, End, Broken, Memory}

-- What a decoder answers to a piece.
abbrev pub IsFed : FedData → FedData → List ℕ → Heard → Type 0
IsFed old new piece (Frames frames) = Feeds old new piece frames.items
IsFed old new piece (NoFrame place) = IsBroken old.rest × (place ≡ old.place) × (new ≡ old)
IsFed old new piece End = ⊥
IsFed old new piece Broken = ⊥
IsFed old new piece Memory = new ≡ old

-- What a piece gave, or that there was none.
abbrev pub ReadsPiece : Option (List ℕ) → Option (List ℕ) → FedData → FedData → ℕ → ℕ → Heard → Type 0
ReadsPiece before left old new faults now (Frames frames) = (piece : List ℕ) × Consumes before left piece × Feeds old new piece frames.items
ReadsPiece before left old new faults now (NoFrame place) = IsBroken old.rest
ReadsPiece before left old new faults now End = Consumes before left [] × IsAtEnd left × (new ≡ old)
ReadsPiece before left old new faults now Broken = Consumes before left [] × Rose faults now
ReadsPiece before left old new faults now Memory = (piece : List ℕ) × Consumes before left piece

-- whether these are no frames
abbrev pub is_none : Heard → Bool
is_none (Frames frames) = is_empty frames.items
is_none (NoFrame place) = false
is_none End = false
is_none Broken = false
is_none Memory = false

-- These frames were whole without another piece, or a piece of the link completed them.
abbrev pub HearsIn : Option (List ℕ) → Option (List ℕ) → FedData → FedData → List Frame → Type 0
HearsIn before left old new frames = (Feeds old new [] frames × (left ≡ before))
    ⊎ ((mid : FedData) × (piece : List ℕ) × Feeds old mid [] [] × Consumes before left piece × Feeds mid new piece frames)

-- What was heard: frames that a piece completes; that what came before is no frame; that the link ended; that a call failed. Where memory ran out, some bytes
-- may be read.
abbrev pub Listens : Option (List ℕ) → Option (List ℕ) → FedData → FedData → ℕ → ℕ → Heard → Type 0
Listens before left old new faults now (Frames frames) = HearsIn before left old new frames.items
Listens before left old new faults now (NoFrame place) = IsBroken old.rest × (place ≡ old.place) × (left ≡ before) × (new ≡ old)
Listens before left old new faults now End = Feeds old new [] [] × Consumes before left [] × IsAtEnd left
Listens before left old new faults now Broken = Consumes before left [] × Rose faults now
Listens before left old new faults now Memory = (piece : List ℕ) × Consumes before left piece
