-- By which transport layer tools reach a slave, as its A2L file tells it (ASAM MCD-1 XCP, interface specification: the blocks XCP_ON_TCP_IP
-- and XCP_ON_UDP_IP).
use Rattle.std.specs.Prelude.{◌≡◌, ◌<◌, ◌&&◌, ◌||◌, ◌==◌, ◌/◌, ◌%◌, ℕ, Bool, true, List, [], ◌∷◌, ◌++◌, length, codes, if◌then◌else◌, nat_le}
use Rattle.std.specs.Fmt.{decimal, digit_glyph}
use Rattle.std.specs.List.{list_all}
use Rattle.std.specs.Char.{is_ascii_digit}
use Rattle.xcp_describe.specs.EntryTexts.{quoted_text}
use Rattle.xcp_describe.specs.declared.transport.Transport.{Transport}
use Rattle.xcp_describe.specs.declared.transport.Transport.TheVariants.{Tcp, Udp}

-- the name of its block
abbrev pub block_name : Transport → List ℕ
block_name Tcp = codes "XCP_ON_TCP_IP"
block_name Udp = codes "XCP_ON_UDP_IP"

-- the line of the grammar, the block A2ML, with which its block begins there
unfoldable pub known_line : Transport → List ℕ
known_line transport = codes "            block \"" ++ block_name transport ++ codes "\" struct {\n"

-- what names a host: its address, if it has digits and points alone and as few as an address has, or its name
abbrev pub is_address_character : ℕ → Bool
is_address_character c = c == 46 || is_ascii_digit c

unfoldable pub host_word : List ℕ → List ℕ
host_word host = if list_all is_address_character host && nat_le (length host) 15 then codes "ADDRESS" else codes "HOST_NAME"

-- a byte in two hex digits
abbrev pub hex_text : ℕ → List ℕ
hex_text byte = digit_glyph true (byte / 16) ∷ digit_glyph true (byte % 16) ∷ []

-- the lines of its block: the major version of the transport layer, with a minor version of 0; the port; the host
unfoldable pub version_line : ℕ → List ℕ
version_line version = codes "        0x" ++ hex_text version ++ codes "00 /* version */\n"

unfoldable pub port_line : ℕ → List ℕ
port_line port = codes "        " ++ decimal port ++ codes " /* port */\n"

unfoldable pub host_line : List ℕ → List ℕ
host_line host = codes "        " ++ host_word host ++ codes " " ++ quoted_text host ++ codes "\n"

abbrev pub reached_lines : ℕ → ℕ → List ℕ → List ℕ
reached_lines version port host = version_line version ++ port_line port ++ host_line host

-- its block, with such lines
unfoldable pub block_begin : Transport → List ℕ
block_begin transport = codes "      /begin " ++ block_name transport ++ codes "\n"

unfoldable pub block_end : Transport → List ℕ
block_end transport = codes "      /end " ++ block_name transport ++ codes "\n"

abbrev pub transport_block : Transport → List ℕ → List ℕ
transport_block transport lines = block_begin transport ++ lines ++ block_end transport

-- the block IF_DATA of the whole module: its block is the last one in it, behind these others
abbrev pub interface_block : List ℕ → Transport → List ℕ → List ℕ
interface_block others transport lines = codes "    /begin IF_DATA XCP\n" ++ others ++ transport_block transport lines ++ codes "    /end IF_DATA\n"

-- a text tells that tools reach the slave by this transport layer, at this host and port: the grammar knows the block of it, and this
-- stands last in IF_DATA
pub record TellsTransport (transport : Transport) (host : List ℕ) (port : ℕ) (text : List ℕ) : Type 0 where
  pub version : ℕ
  pub byte : version < 256
  pub others : List ℕ
  pub before : List ℕ
  pub between : List ℕ
  pub behind : List ℕ
  pub told : text ≡ before ++ known_line transport ++ between ++ interface_block others transport (reached_lines version port host) ++ behind
