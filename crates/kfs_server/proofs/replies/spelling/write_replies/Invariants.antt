use Rattle.std.proofs.Common.{◌≡◌, ◌+◌, ◌*◌, ◌≤◌, ◌++◌, take, vec_len, vec_capacity}
use Rattle.std.specs.List.{flat_map}
use Rattle.kfs_server.specs.Replies.Views.{numbered_bytes}
use Rattle.kfs_server.proofs.replies.spelling.write_replies.Given as goal

abbrev pub invariant-loop-reply : goal.invariant-loop-reply
invariant-loop-reply g l = record {
  text : l.text.items ≡ l.fn.text.items ++ flat_map numbered_bytes (take l.reply-index l.replies);
  len : vec_len l.text ≤ vec_len l.fn.text + 29 * l.reply-index;
  capacity : vec_capacity l.fn.text ≤ vec_capacity l.text;
}
