-- Calls of cached apps as keys.
use Rattle.std.specs.Prelude.{ℕ, Bool, ◌&&◌, List, [], ◌∷◌, map, bytes_eq}
use Rattle.std.specs.Cmp.Lexicographic.{pointwise}
use Rattle.flow_base.specs.declared.value.Value.{Value}
use Rattle.flow_base.specs.Values.{same, all_match}
use Rattle.flow_codec.specs.Encoding.{data_of}
use Rattle.serde_json.specs.Data.{Data, string, array}
use Rattle.serde_json.specs.View.{items_of}
use Rattle.serde_json.specs.Written.{compact_text}
use Rattle.sha2.specs.Sha256.{sha256}

-- the app's canonical text, the arguments, and the names of the files
pub record KeyView : Type 0 where
  pub app : List ℕ
  pub arguments : List Value
  pub names : List (List ℕ)

abbrev pub values_data : List Value → Data
values_data values = array (items_of (map data_of values))

abbrev pub texts_data : List (List ℕ) → Data
texts_data texts = array (items_of (map string texts))

abbrev pub key_data : KeyView → List Data
key_data key = string key.app ∷ values_data key.arguments ∷ texts_data key.names ∷ []

-- the SHA-256 of the key as JSON
unfoldable pub digest_of : KeyView → List ℕ
digest_of key = sha256 (compact_text (array (items_of (key_data key))))

-- the same app, arguments and names
abbrev pub same_key : KeyView → KeyView → Bool
same_key a b = bytes_eq a.app b.app && all_match (map same a.arguments) b.arguments && pointwise bytes_eq a.names b.names
