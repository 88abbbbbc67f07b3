-- What a pass of the outlet knows behind each step of the channel.
use Rattle.std.specs.Prelude.{ℕ, Bool, true, false, List, [], ◌∷◌, ◌++◌, Option, Some, None, option_map}
use Rattle.std.specs.Option.{option_or}
use Rattle.xcp_outlet.specs.declared.message.Message.{Message}
use Rattle.xcp_outlet.specs.PassKnowledge.{Half, PassKnown, half}

abbrev pub nothing_known : PassKnown
nothing_known = record { reply = None; daq = None; taken = None }

-- the first pass stands for all three
abbrev pub everything : PassKnown
everything = record { reply = Some (half [] false); daq = Some (half [] false); taken = Some [] }

abbrev pub one_half : Bool → Half → PassKnown
one_half false h = record { reply = Some h; daq = None; taken = None }
one_half true h = record { reply = None; daq = Some h; taken = None }

abbrev pub message : Bool → Option (List (List ℕ)) → Message
message side b = record { from_data = side; batch = b }

-- one message more: a batch of packets, or the end mark
abbrev pub more : Option (List (List ℕ)) → Half → Half
more (Some ps) h = half (h.put ++ ps) h.ended
more None h = half h.put true

abbrev pub after_put_on : Bool → Option (List (List ℕ)) → PassKnown → PassKnown
after_put_on false b v = record { reply = option_map (more b) v.reply; daq = v.daq; taken = v.taken }
after_put_on true b v = record { reply = v.reply; daq = option_map (more b) v.daq; taken = v.taken }

abbrev pub after_put : Message → PassKnown → PassKnown
after_put m v = after_put_on m.from_data m.batch v

abbrev pub after_take : Message → PassKnown → PassKnown
after_take m v = record { reply = v.reply; daq = v.daq; taken = option_map (λ t. t ++ m ∷ []) v.taken }

-- a pass that takes in an end's half
abbrev pub both_halves : PassKnown → PassKnown → PassKnown
both_halves v w = record { reply = option_or w.reply v.reply; daq = option_or w.daq v.daq; taken = v.taken }
