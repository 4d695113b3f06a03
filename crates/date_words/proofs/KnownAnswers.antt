-- Dates that RFC 9110 (5.6.7) and other programs give, so that a wrong rule in the specs does not check.
use Rattle.std.proofs.Common.{◌≡◌, codes, refl}
use Rattle.date_words.specs.Civil.{Civil, civil_of}
use Rattle.date_words.specs.HttpDate.{http_date, date_of_micros}
use Rattle.date_words.proofs.OnLiterals.{date_words_on_literals}

pub epoch : http_date 0 ≡ codes "Thu, 01 Jan 1970 00:00:00 GMT"
unfolding date_words_on_literals
epoch = refl

-- the example of the RFC
pub rfc_example : http_date 784111777 ≡ codes "Sun, 06 Nov 1994 08:49:37 GMT"
unfolding date_words_on_literals
rfc_example = refl

pub leap_day : http_date 951782400 ≡ codes "Tue, 29 Feb 2000 00:00:00 GMT"
unfolding date_words_on_literals
leap_day = refl

pub later : http_date 1700000000 ≡ codes "Tue, 14 Nov 2023 22:13:20 GMT"
unfolding date_words_on_literals
later = refl

pub last_second : http_date 253402300799 ≡ codes "Fri, 31 Dec 9999 23:59:59 GMT"
unfolding date_words_on_literals
last_second = refl

-- the last microsecond of a second, and a moment after the greatest one
pub micros : date_of_micros 784111777999999 ≡ codes "Sun, 06 Nov 1994 08:49:37 GMT"
unfolding date_words_on_literals
micros = refl

pub late_micros : date_of_micros 18446744073709551615 ≡ codes "Fri, 31 Dec 9999 23:59:59 GMT"
unfolding date_words_on_literals
late_micros = refl

abbrev example : Civil
example = record { year = 1994; month = 11; day = 6; hour = 8; minute = 49; second = 37 }

pub civil_example : civil_of 784111777 ≡ example
unfolding date_words_on_literals
civil_example = refl
