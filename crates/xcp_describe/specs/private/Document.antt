-- What a check of a document is given.
use Rattle.std.specs.Prelude.{◌≡◌, ℕ, List, Some}
use Rattle.toml.specs.Data.{Data, Members, table}
use Rattle.toml.specs.Parse.{parse_document}

-- the text of a file is this document
pub record IsDocument (file : List ℕ) (d : Data) : Type 0 where
  pub members : Members
  pub parsed : parse_document file ≡ Some members
  pub is : d ≡ table members
