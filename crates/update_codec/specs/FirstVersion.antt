-- Version 1 by itself, as it was before there was another.
use Rattle.std.specs.Prelude.{◌≡◌, ℕ, ◌≤◌, List, ◌∷◌, ◌++◌, length, None}
use Rattle.std.specs.List.{flat_map, AllByRecursion}
use Rattle.std.specs.Int.{w16, w32, to_be_bytes}
use Rattle.update_model.specs.Block.{IsBlock, IsId}
use Rattle.update_model.specs.Form.{BodyData, UpdateData, IsKey, AreRising, signature_length}
use Rattle.update_model.specs.Rows.{AreOps}
use Rattle.update_model.specs.declared.limits.TheConstants.{MAX_PLAIN_OPS, MAX_PREDS}
use Rattle.update_codec.specs.declared.limits.TheConstants.{UPDATE_LIMIT}
use Rattle.update_codec.specs.Spelling.{id, op, author}

-- a body that version 1 can spell: it has no note
pub record IsFirstBody (body : BodyData) : Type 0 where
  pub database : IsBlock 32 body.database
  pub author : IsKey body.author
  pub few_preds : length body.preds ≤ MAX_PREDS
  pub ids : AllByRecursion IsId body.preds
  pub rising : AreRising None body.preds
  pub few_ops : length body.ops ≤ MAX_PLAIN_OPS
  pub ops : AreOps 0 body.ops
  pub no_note : body.note ≡ None

-- what its author signs
abbrev pub first_message : BodyData → List ℕ
first_message body = 1 ∷ (body.database ++ (author body.author
    ++ (to_be_bytes w16 (length body.preds) ++ (flat_map id body.preds ++ (to_be_bytes w16 (length body.ops) ++ flat_map op body.ops)))))

-- The bytes are the spelling of the update in version 1.
pub record SpellsFirst (bytes : List ℕ) (update : UpdateData) : Type 0 where
  pub body : IsFirstBody update.body
  pub signature : IsBlock (signature_length update.body.author) update.signature
  pub spells : bytes ≡ first_message update.body ++ (to_be_bytes w32 (length update.signature) ++ update.signature)
  pub short : length bytes ≤ UPDATE_LIMIT
