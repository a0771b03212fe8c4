-- A text that is UTF-8.
use Rattle.std.proofs.lemmas.Str.{is_utf8-from_IsUtf8, IsUtf8-from_is_utf8}

pub ruleset texts = (is_utf8-from_IsUtf8, IsUtf8-from_is_utf8)
