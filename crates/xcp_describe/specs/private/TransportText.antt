-- Parts of a file that tell the transport layer.
use Rattle.std.specs.Prelude.{◌≡◌, ◌<◌, ℕ, List, ◌++◌}
use Rattle.xcp_describe.specs.Transports.{interface_block, known_line, reached_lines}
use Rattle.xcp_describe.specs.declared.transport.Transport.{Transport}

-- the line of the grammar with which its block begins stands in a text
pub record KnowsTransport (transport : Transport) (text : List ℕ) : Type 0 where
  pub before : List ℕ
  pub behind : List ℕ
  pub is : text ≡ before ++ known_line transport ++ behind

-- the block IF_DATA stands in a text, with its block of this host and port last in it
pub record HasInterface (transport : Transport) (host : List ℕ) (port : ℕ) (text : List ℕ) : Type 0 where
  pub version : ℕ
  pub byte : version < 256
  pub others : List ℕ
  pub before : List ℕ
  pub behind : List ℕ
  pub is : text ≡ before ++ interface_block others transport (reached_lines version port host) ++ behind
