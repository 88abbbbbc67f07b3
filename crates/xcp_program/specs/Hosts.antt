-- Addresses at which no tool can be.
use Rattle.std.specs.Prelude.{◌≡◌, ◌⊎◌, [], ◌∷◌}
use Rattle.std.specs.Net.Addr.{IsMulticastV4, IsMulticastV6, MatchIp, ipv4_octets}
use Rattle.std.specs.declared.net.ip_addr.IpAddr.{IpAddr}

-- the address is one of many machines: 255.255.255.255, or one of a group
abbrev pub IsForMany : IpAddr → Type 0
IsForMany address = MatchIp address (λ v4. (ipv4_octets v4 ≡ 255 ∷ 255 ∷ 255 ∷ 255 ∷ []) ⊎ IsMulticastV4 v4) IsMulticastV6
