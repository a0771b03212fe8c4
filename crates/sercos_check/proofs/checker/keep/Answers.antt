use Rattle.sercos_check.proofs.CheckerLemmas.{telegram_rule, telegram_seen, other_rule, other_seen}
use Rattle.sercos_check.proofs.checker.keep.Goals as goal

pub returns-in-Telegram-clause-rule : goal.returns-in-Telegram-clause-rule
returns-in-Telegram-clause-rule c = rw c.in-Telegram.is (λ lines stands can seen. telegram_rule lines _ _ _ _ _ (c.wishes-wishes.ensures.value _ stands) c.broken-rule.ensures seen)

pub returns-in-Telegram-clause-seen : goal.returns-in-Telegram-clause-seen
returns-in-Telegram-clause-seen c = rw c.in-Telegram.is (λ lines stands can seen. telegram_seen lines _ _ _ _ _ (c.wishes-wishes.ensures.value _ stands) c.note.ensures seen)

pub returns-in_default : goal.returns-in_default
returns-in_default c = record {
  rule = λ lines stands can seen. other_rule lines _ c.in_default.not-Telegram;
  seen = λ lines stands can seen. other_seen lines _ _ c.in_default.not-Telegram can seen;
}
