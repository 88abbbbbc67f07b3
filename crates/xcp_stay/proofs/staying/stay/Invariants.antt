use Rattle.xcp_stay.proofs.staying.stay.Given as goal

abbrev pub ghosts-stay_and_tell-N-Ledger : goal.ghosts-stay_and_tell-N-Ledger
ghosts-stay_and_tell-N-Ledger g a = record { name = a.unnamed.name; parts = a.unnamed.callers }

abbrev pub ghosts-stay_and_tell-N-Name : goal.ghosts-stay_and_tell-N-Name
ghosts-stay_and_tell-N-Name g a = record { layout = a.unnamed.layout; bank = a.unnamed.bank }
