-- The grammar of stave names (N4), and the staves that there are (N6). No public contract cites this file: `StaveNameLaws` says that
-- `named_fee` agrees with it.
use Rattle.std.specs.Prelude.{◌≡◌, List, ◌∷◌, ◌++◌, ℕ, ◌<◌, ◌≤◌}
use Rattle.its.specs.FeeIds.{highest_layer, highest_stave}
use Rattle.its_names_numbers.specs.NumberGrammar.{Number}
use Rattle.its_names.specs.StaveNames.{underscore}

-- The bytes of a stave name, part by part, with the layer and the stave that they name.
pub record Named (name : List ℕ) (layer stave : ℕ) : Type 0 where
  pub first : ℕ
  pub layer_text : List ℕ
  pub stave_text : List ℕ
  pub parts : name ≡ first ∷ (layer_text ++ (underscore ∷ stave_text))
  pub below_0x80 : first < 0x80
  pub but_underscore : first ≡ underscore → ⊥
  pub a_layer : Number layer_text layer
  pub a_stave : Number stave_text stave

-- The name of a stave that there is.
pub record NamesStave (name : List ℕ) (layer stave : ℕ) : Type 0 where
  pub form : Named name layer stave
  pub layer_there : layer ≤ highest_layer
  pub stave_there : stave ≤ highest_stave
