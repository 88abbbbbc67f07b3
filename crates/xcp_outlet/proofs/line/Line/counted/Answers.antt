use Rattle.std.proofs.Common.{rules, ◌≡◌, true, false, sym, ◌∙◌}
use Rattle.xcp_outlet.proofs.SendingLemmas.{all_written, no_replies_end, no_data_end}
use Rattle.xcp_outlet.proofs.line.Line.counted.Goals as goal

pub returns-then-not-self : goal.returns-then-not-self
returns-then-not-self c before after old new taken p =
    let well : c.args.self.now.broken ≡ false = search rules in
    let missing : c.args.self.now.replies_ended ≡ false = search rules in
    (rw (c.sent.ensures) (all_written c.args.self.now taken before after well (c.requires well) p), no_replies_end c.args.self.now taken before after missing p)

pub returns-then-not-self-2 : goal.returns-then-not-self-2
returns-then-not-self-2 c before after old new taken p =
    let well : c.args.self.now.broken ≡ false = search rules in
    let missing : c.args.self.now.data_ended ≡ false = search rules in
    (rw (c.sent-then-not-self-2.ensures) (all_written c.args.self.now taken before after well (c.requires well) p), no_data_end c.args.self.now taken before after missing p)

pub returns : goal.returns
returns c before after old new taken p =
    let well : c.args.self.now.broken ≡ false = search rules in
    let of_replies : c.args.self.now.replies_ended ≡ true = search rules in
    let of_data : c.args.self.now.data_ended ≡ true = search rules in
    (rw (c.sent-2.ensures) (all_written c.args.self.now taken before after well (c.requires well) p), (sym p.reply_mark ∙ of_replies, sym p.data_mark ∙ of_data))
