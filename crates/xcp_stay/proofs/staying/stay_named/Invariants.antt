use Rattle.xcp_stay.proofs.staying.stay_named.Given as goal

abbrev pub ghosts-stay_by_post : goal.ghosts-stay_by_post
ghosts-stay_by_post g a = record { relay = a.ready.unrouted }
