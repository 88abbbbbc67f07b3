use Rattle.std.proofs.lemmas.Str.{IsUtf8-string_bytes}
use Rattle.xcp_describe.proofs.FileLemmas.{file_tells, joined_is_file}
use Rattle.xcp_describe.proofs.TransportLemmas.{file_tells_transport}
use Rattle.xcp_describe.proofs.describing.whole.Goals as goal

pub returns-clause-file : goal.returns-clause-file
returns-clause-file c =
    joined_is_file c.args.front.now c.args.epk.now c.args.rest.now _ _ (record {
      first = _;
      second = _;
      third = _;
      fourth = _;
      fifth = _;
      begun = c.in_ok-text.ensures.ok;
      fronted = c.in_ok-push_str.ensures.bytes;
      headed = c.in_ok-push_str-2.ensures.bytes;
      told = c.in_ok-push_str-3.ensures.bytes;
      gone_on = c.in_ok-push_str-4.ensures.bytes;
      ended = c.in_ok-push_str-5.ensures.bytes;
    }) c.in_ok-put_mark.ensures (IsUtf8-string_bytes c.put_mark.new.text)

pub returns-clause-told : goal.returns-clause-told
returns-clause-told c = λ digits e.
    file_tells c.args.front.now c.args.epk.now c.args.rest.now _ _ digits (record {
      first = _;
      second = _;
      third = _;
      fourth = _;
      fifth = _;
      begun = c.in_ok-text.ensures.ok;
      fronted = c.in_ok-push_str.ensures.bytes;
      headed = c.in_ok-push_str-2.ensures.bytes;
      told = c.in_ok-push_str-3.ensures.bytes;
      gone_on = c.in_ok-push_str-4.ensures.bytes;
      ended = c.in_ok-push_str-5.ensures.bytes;
    }) c.in_ok-put_mark.ensures e

pub returns-clause-transport : goal.returns-clause-transport
returns-clause-transport c = λ t host port k i.
    file_tells_transport t host port c.args.front.now c.args.epk.now c.args.rest.now _ _ (record {
      first = _;
      second = _;
      third = _;
      fourth = _;
      fifth = _;
      begun = c.in_ok-text.ensures.ok;
      fronted = c.in_ok-push_str.ensures.bytes;
      headed = c.in_ok-push_str-2.ensures.bytes;
      told = c.in_ok-push_str-3.ensures.bytes;
      gone_on = c.in_ok-push_str-4.ensures.bytes;
      ended = c.in_ok-push_str-5.ensures.bytes;
    }) c.in_ok-put_mark.ensures k i
