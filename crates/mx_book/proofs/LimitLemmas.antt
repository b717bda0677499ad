-- The constants of the code are the limits of the definitions.
use Rattle.std.proofs.Common.{◌≡◌, refl}
use Rattle.mx_book.specs.declared.values.TheConstants.{MOST_MESSAGES, MOST_PURSES}
use Rattle.mx_book.specs.Limits.{most_messages, most_purses}

pub messages_agree : MOST_MESSAGES ≡ most_messages
messages_agree = refl

pub purses_agree : MOST_PURSES ≡ most_purses
purses_agree = refl
