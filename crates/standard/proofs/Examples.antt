-- Texts with what is told of them, by computation; the answers were compared with an implementation of document 02 of its own. Assumes nothing.
use mathlib.Core.Path.{◌≡◌, refl}
use mathlib.Core.List.{List}
use mathlib.Core.Option.{some}
use Prim.Native.Nat.{ℕ}
use Rattle.token.specs.Words.{bytes_of}
use Rattle.standard.specs.Asking.{Finding}
use Rattle.standard.specs.Checking.{told, checked, checked_against}
use Rattle.standard.specs.Answered.{Checked}
use Rattle.rows.specs.Refusing.{refusing}
use Rattle.standard.proofs.Everything.{rules}
use Rattle.standard.proofs.Sections.{is_standard, written}

abbrev fi : ℕ → ℕ → ℕ → Finding
fi p n a = record { place = p; number = n; attribute = a }

-- What is computed by the standard written out is the answer.
pub by_written : (s : List ℕ) (r : Checked) → checked_against written s ≡ r → checked s ≡ r
unfolding checked
by_written s r h = rw is_standard h

nothing_there : checked_against written (bytes_of "OIL_VERSION=\"2.5\";IMPLEMENTATION m{};CPU c{OS o;APPMODE a;};") ≡ told (some (fi 33 25 0))
unfolding rules
nothing_there = refl

refused_text : checked_against written (bytes_of "OIL_VERSION=\"2.4\";IMPLEMENTATION m{};CPU c{OS o;APPMODE a;};") ≡ refusing 6 12
unfolding rules
refused_text = refl

not_parsed : checked_against written (bytes_of "OIL_VERSION=\"2.5\";IMPLEMENTATION m{;CPU c{OS o;APPMODE a;};") ≡ refusing 4 35
unfolding rules
not_parsed = refl

no_counter : checked_against written (bytes_of "OIL_VERSION=\"2.5\";IMPLEMENTATION m{OS{};TASK{};ISR{};ALARM{};EVENT{};RESOURCE{};};CPU c{OS o;APPMODE a;};") ≡ told (some (fi 33 25 20))
unfolding rules
no_counter = refl

empty_kinds : checked_against written (bytes_of "OIL_VERSION=\"2.5\";IMPLEMENTATION m{OS{};TASK{};ISR{};COUNTER{};ALARM{};EVENT{};RESOURCE{};};CPU c{OS o;APPMODE a;};") ≡ told (some (fi 35 25 0))
unfolding rules
empty_kinds = refl

category_listed : checked_against written (bytes_of "OIL_VERSION=\"2.5\";IMPLEMENTATION m{ISR{UINT32[1,2]CATEGORY; RESOURCE_TYPE RESOURCE[];MESSAGE_TYPE MESSAGE[];};OS{};TASK{};COUNTER{};ALARM{};EVENT{};RESOURCE{};};CPU c{OS o;APPMODE a;};") ≡ told (some (fi 110 25 0))
unfolding rules
category_listed = refl

category_swapped : checked_against written (bytes_of "OIL_VERSION=\"2.5\";IMPLEMENTATION m{ISR{UINT32[2,1]CATEGORY; RESOURCE_TYPE RESOURCE[];MESSAGE_TYPE MESSAGE[];};OS{};TASK{};COUNTER{};ALARM{};EVENT{};RESOURCE{};};CPU c{OS o;APPMODE a;};") ≡ told (some (fi 110 25 0))
unfolding rules
category_swapped = refl

category_pair : checked_against written (bytes_of "OIL_VERSION=\"2.5\";IMPLEMENTATION m{ISR{UINT32[1..2]CATEGORY; RESOURCE_TYPE RESOURCE[];MESSAGE_TYPE MESSAGE[];};OS{};TASK{};COUNTER{};ALARM{};EVENT{};RESOURCE{};};CPU c{OS o;APPMODE a;};") ≡ told (some (fi 111 25 0))
unfolding rules
category_pair = refl

category_one : checked_against written (bytes_of "OIL_VERSION=\"2.5\";IMPLEMENTATION m{ISR{UINT32[2]CATEGORY; RESOURCE_TYPE RESOURCE[];MESSAGE_TYPE MESSAGE[];};OS{};TASK{};COUNTER{};ALARM{};EVENT{};RESOURCE{};};CPU c{OS o;APPMODE a;};") ≡ told (some (fi 108 25 0))
unfolding rules
category_one = refl

category_one_pair : checked_against written (bytes_of "OIL_VERSION=\"2.5\";IMPLEMENTATION m{ISR{UINT32[1..1]CATEGORY; RESOURCE_TYPE RESOURCE[];MESSAGE_TYPE MESSAGE[];};OS{};TASK{};COUNTER{};ALARM{};EVENT{};RESOURCE{};};CPU c{OS o;APPMODE a;};") ≡ told (some (fi 111 25 0))
unfolding rules
category_one_pair = refl

category_no_range : checked_against written (bytes_of "OIL_VERSION=\"2.5\";IMPLEMENTATION m{ISR{UINT32 CATEGORY; RESOURCE_TYPE RESOURCE[];MESSAGE_TYPE MESSAGE[];};OS{};TASK{};COUNTER{};ALARM{};EVENT{};RESOURCE{};};CPU c{OS o;APPMODE a;};") ≡ told (some (fi 46 26 17))
unfolding rules
category_no_range = refl

category_from_zero : checked_against written (bytes_of "OIL_VERSION=\"2.5\";IMPLEMENTATION m{ISR{UINT32[0..2]CATEGORY; RESOURCE_TYPE RESOURCE[];MESSAGE_TYPE MESSAGE[];};OS{};TASK{};COUNTER{};ALARM{};EVENT{};RESOURCE{};};CPU c{OS o;APPMODE a;};") ≡ told (some (fi 51 26 17))
unfolding rules
category_from_zero = refl

category_to_three : checked_against written (bytes_of "OIL_VERSION=\"2.5\";IMPLEMENTATION m{ISR{UINT32[1..3]CATEGORY; RESOURCE_TYPE RESOURCE[];MESSAGE_TYPE MESSAGE[];};OS{};TASK{};COUNTER{};ALARM{};EVENT{};RESOURCE{};};CPU c{OS o;APPMODE a;};") ≡ told (some (fi 51 26 17))
unfolding rules
category_to_three = refl

category_three : checked_against written (bytes_of "OIL_VERSION=\"2.5\";IMPLEMENTATION m{ISR{UINT32[1,2,3]CATEGORY; RESOURCE_TYPE RESOURCE[];MESSAGE_TYPE MESSAGE[];};OS{};TASK{};COUNTER{};ALARM{};EVENT{};RESOURCE{};};CPU c{OS o;APPMODE a;};") ≡ told (some (fi 52 26 17))
unfolding rules
category_three = refl

category_far : checked_against written (bytes_of "OIL_VERSION=\"2.5\";IMPLEMENTATION m{ISR{UINT32[1..4294967295]CATEGORY; RESOURCE_TYPE RESOURCE[];MESSAGE_TYPE MESSAGE[];};OS{};TASK{};COUNTER{};ALARM{};EVENT{};RESOURCE{};};CPU c{OS o;APPMODE a;};") ≡ told (some (fi 60 26 17))
unfolding rules
category_far = refl

category_other_type : checked_against written (bytes_of "OIL_VERSION=\"2.5\";IMPLEMENTATION m{ISR{INT32[1,2]CATEGORY; RESOURCE_TYPE RESOURCE[];MESSAGE_TYPE MESSAGE[];};OS{};TASK{};COUNTER{};ALARM{};EVENT{};RESOURCE{};};CPU c{OS o;APPMODE a;};") ≡ told (some (fi 49 26 17))
unfolding rules
category_other_type = refl

category_auto : checked_against written (bytes_of "OIL_VERSION=\"2.5\";IMPLEMENTATION m{ISR{UINT32 WITH_AUTO[1,2]CATEGORY; RESOURCE_TYPE RESOURCE[];MESSAGE_TYPE MESSAGE[];};OS{};TASK{};COUNTER{};ALARM{};EVENT{};RESOURCE{};};CPU c{OS o;APPMODE a;};") ≡ told (some (fi 60 26 17))
unfolding rules
category_auto = refl

category_default : checked_against written (bytes_of "OIL_VERSION=\"2.5\";IMPLEMENTATION m{ISR{UINT32[1,2]CATEGORY=2; RESOURCE_TYPE RESOURCE[];MESSAGE_TYPE MESSAGE[];};OS{};TASK{};COUNTER{};ALARM{};EVENT{};RESOURCE{};};CPU c{OS o;APPMODE a;};") ≡ told (some (fi 50 26 17))
unfolding rules
category_default = refl

category_no_default : checked_against written (bytes_of "OIL_VERSION=\"2.5\";IMPLEMENTATION m{ISR{UINT32[1,2]CATEGORY=NO_DEFAULT; RESOURCE_TYPE RESOURCE[];MESSAGE_TYPE MESSAGE[];};OS{};TASK{};COUNTER{};ALARM{};EVENT{};RESOURCE{};};CPU c{OS o;APPMODE a;};") ≡ told (some (fi 121 25 0))
unfolding rules
category_no_default = refl

category_marked : checked_against written (bytes_of "OIL_VERSION=\"2.5\";IMPLEMENTATION m{ISR{UINT32[1,2]CATEGORY[]; RESOURCE_TYPE RESOURCE[];MESSAGE_TYPE MESSAGE[];};OS{};TASK{};COUNTER{};ALARM{};EVENT{};RESOURCE{};};CPU c{OS o;APPMODE a;};") ≡ told (some (fi 50 26 17))
unfolding rules
category_marked = refl

category_absent : checked_against written (bytes_of "OIL_VERSION=\"2.5\";IMPLEMENTATION m{ISR{ RESOURCE_TYPE RESOURCE[];MESSAGE_TYPE MESSAGE[];};OS{};TASK{};COUNTER{};ALARM{};EVENT{};RESOURCE{};};CPU c{OS o;APPMODE a;};") ≡ told (some (fi 35 25 17))
unfolding rules
category_absent = refl

category_hex : checked_against written (bytes_of "OIL_VERSION=\"2.5\";IMPLEMENTATION m{ISR{UINT32[0x1,0x2]CATEGORY; RESOURCE_TYPE RESOURCE[];MESSAGE_TYPE MESSAGE[];};OS{};TASK{};COUNTER{};ALARM{};EVENT{};RESOURCE{};};CPU c{OS o;APPMODE a;};") ≡ told (some (fi 114 25 0))
unfolding rules
category_hex = refl

mask_as_is : checked_against written (bytes_of "OIL_VERSION=\"2.5\";IMPLEMENTATION m{EVENT{UINT64 WITH_AUTO MASK;};OS{};TASK{};ISR{};COUNTER{};ALARM{};RESOURCE{};};CPU c{OS o;APPMODE a;};") ≡ told (some (fi 65 25 0))
unfolding rules
mask_as_is = refl

mask_without_auto : checked_against written (bytes_of "OIL_VERSION=\"2.5\";IMPLEMENTATION m{EVENT{UINT64 MASK;};OS{};TASK{};ISR{};COUNTER{};ALARM{};RESOURCE{};};CPU c{OS o;APPMODE a;};") ≡ told (some (fi 55 25 0))
unfolding rules
mask_without_auto = refl

mask_auto_default : checked_against written (bytes_of "OIL_VERSION=\"2.5\";IMPLEMENTATION m{EVENT{UINT64 WITH_AUTO MASK=AUTO;};OS{};TASK{};ISR{};COUNTER{};ALARM{};RESOURCE{};};CPU c{OS o;APPMODE a;};") ≡ told (some (fi 58 26 33))
unfolding rules
mask_auto_default = refl

mask_range : checked_against written (bytes_of "OIL_VERSION=\"2.5\";IMPLEMENTATION m{EVENT{UINT64 WITH_AUTO[1..9]MASK;};OS{};TASK{};ISR{};COUNTER{};ALARM{};RESOURCE{};};CPU c{OS o;APPMODE a;};") ≡ told (some (fi 70 25 0))
unfolding rules
mask_range = refl

mask_narrow_type : checked_against written (bytes_of "OIL_VERSION=\"2.5\";IMPLEMENTATION m{EVENT{UINT32 WITH_AUTO MASK;};OS{};TASK{};ISR{};COUNTER{};ALARM{};RESOURCE{};};CPU c{OS o;APPMODE a;};") ≡ told (some (fi 58 26 33))
unfolding rules
mask_narrow_type = refl

property_as_is : checked_against written (bytes_of "OIL_VERSION=\"2.5\";IMPLEMENTATION m{RESOURCE{ENUM[STANDARD,LINKED{RESOURCE_TYPE LINKEDRESOURCE;},INTERNAL]RESOURCEPROPERTY;};OS{};TASK{};ISR{};COUNTER{};ALARM{};EVENT{};};CPU c{OS o;APPMODE a;};") ≡ told (some (fi 124 25 0))
unfolding rules
property_as_is = refl

property_fewer : checked_against written (bytes_of "OIL_VERSION=\"2.5\";IMPLEMENTATION m{RESOURCE{ENUM[STANDARD]RESOURCEPROPERTY;};OS{};TASK{};ISR{};COUNTER{};ALARM{};EVENT{};};CPU c{OS o;APPMODE a;};") ≡ told (some (fi 77 25 0))
unfolding rules
property_fewer = refl

property_more : checked_against written (bytes_of "OIL_VERSION=\"2.5\";IMPLEMENTATION m{RESOURCE{ENUM[STANDARD,OWN]RESOURCEPROPERTY;};OS{};TASK{};ISR{};COUNTER{};ALARM{};EVENT{};};CPU c{OS o;APPMODE a;};") ≡ told (some (fi 62 26 35))
unfolding rules
property_more = refl

property_nothing_under : checked_against written (bytes_of "OIL_VERSION=\"2.5\";IMPLEMENTATION m{RESOURCE{ENUM[STANDARD,LINKED]RESOURCEPROPERTY;};OS{};TASK{};ISR{};COUNTER{};ALARM{};EVENT{};};CPU c{OS o;APPMODE a;};") ≡ told (some (fi 58 25 34))
unfolding rules
property_nothing_under = refl

property_more_and_nothing_under : checked_against written (bytes_of "OIL_VERSION=\"2.5\";IMPLEMENTATION m{RESOURCE{ENUM[OWN,LINKED]RESOURCEPROPERTY;};OS{};TASK{};ISR{};COUNTER{};ALARM{};EVENT{};};CPU c{OS o;APPMODE a;};") ≡ told (some (fi 53 25 34))
unfolding rules
property_more_and_nothing_under = refl

property_sub_differs : checked_against written (bytes_of "OIL_VERSION=\"2.5\";IMPLEMENTATION m{RESOURCE{ENUM[LINKED{RESOURCE_TYPE LINKEDRESOURCE[];}]RESOURCEPROPERTY;};OS{};TASK{};ISR{};COUNTER{};ALARM{};EVENT{};};CPU c{OS o;APPMODE a;};") ≡ told (some (fi 70 26 34))
unfolding rules
property_sub_differs = refl

property_other_type : checked_against written (bytes_of "OIL_VERSION=\"2.5\";IMPLEMENTATION m{RESOURCE{BOOLEAN[TRUE{RESOURCE_TYPE LINKEDRESOURCE;},FALSE]RESOURCEPROPERTY;};OS{};TASK{};ISR{};COUNTER{};ALARM{};EVENT{};};CPU c{OS o;APPMODE a;};") ≡ told (some (fi 94 26 35))
unfolding rules
property_other_type = refl

property_own_besides : checked_against written (bytes_of "OIL_VERSION=\"2.5\";IMPLEMENTATION m{RESOURCE{UINT32 OWN;ENUM[STANDARD{UINT32 X;}]RESOURCEPROPERTY;};OS{};TASK{};ISR{};COUNTER{};ALARM{};EVENT{};};CPU c{OS o;APPMODE a;};") ≡ told (some (fi 99 25 0))
unfolding rules
property_own_besides = refl

property_case : checked_against written (bytes_of "OIL_VERSION=\"2.5\";IMPLEMENTATION m{RESOURCE{ENUM[Standard]RESOURCEPROPERTY;};OS{};TASK{};ISR{};COUNTER{};ALARM{};EVENT{};};CPU c{OS o;APPMODE a;};") ≡ told (some (fi 58 26 35))
unfolding rules
property_case = refl

property_enum_auto : checked_against written (bytes_of "OIL_VERSION=\"2.5\";IMPLEMENTATION m{RESOURCE{ENUM WITH_AUTO[LINKED]RESOURCEPROPERTY;};OS{};TASK{};ISR{};COUNTER{};ALARM{};EVENT{};};CPU c{OS o;APPMODE a;};") ≡ told (some (fi 59 25 34))
unfolding rules
property_enum_auto = refl

autostart_as_is : checked_against written (bytes_of "OIL_VERSION=\"2.5\";IMPLEMENTATION m{TASK{BOOLEAN[TRUE{APPMODE_TYPE APPMODE[];},FALSE]AUTOSTART; UINT32 PRIORITY;UINT32 ACTIVATION;ENUM[NON,FULL]SCHEDULE;EVENT_TYPE EVENT[];RESOURCE_TYPE RESOURCE[];MESSAGE_TYPE MESSAGE[];};OS{};ISR{};COUNTER{};ALARM{};EVENT{};RESOURCE{};};CPU c{OS o;APPMODE a;};") ≡ told (some (fi 221 25 0))
unfolding rules
autostart_as_is = refl

autostart_without_list : checked_against written (bytes_of "OIL_VERSION=\"2.5\";IMPLEMENTATION m{TASK{BOOLEAN AUTOSTART; UINT32 PRIORITY;UINT32 ACTIVATION;ENUM[NON,FULL]SCHEDULE;EVENT_TYPE EVENT[];RESOURCE_TYPE RESOURCE[];MESSAGE_TYPE MESSAGE[];};OS{};ISR{};COUNTER{};ALARM{};EVENT{};RESOURCE{};};CPU c{OS o;APPMODE a;};") ≡ told (some (fi 48 26 10))
unfolding rules
autostart_without_list = refl

autostart_empty_list : checked_against written (bytes_of "OIL_VERSION=\"2.5\";IMPLEMENTATION m{TASK{BOOLEAN[TRUE,FALSE]AUTOSTART; UINT32 PRIORITY;UINT32 ACTIVATION;ENUM[NON,FULL]SCHEDULE;EVENT_TYPE EVENT[];RESOURCE_TYPE RESOURCE[];MESSAGE_TYPE MESSAGE[];};OS{};ISR{};COUNTER{};ALARM{};EVENT{};RESOURCE{};};CPU c{OS o;APPMODE a;};") ≡ told (some (fi 48 25 9))
unfolding rules
autostart_empty_list = refl

autostart_wrong_side : checked_against written (bytes_of "OIL_VERSION=\"2.5\";IMPLEMENTATION m{TASK{BOOLEAN[TRUE,FALSE{APPMODE_TYPE APPMODE[];}]AUTOSTART; UINT32 PRIORITY;UINT32 ACTIVATION;ENUM[NON,FULL]SCHEDULE;EVENT_TYPE EVENT[];RESOURCE_TYPE RESOURCE[];MESSAGE_TYPE MESSAGE[];};OS{};ISR{};COUNTER{};ALARM{};EVENT{};RESOURCE{};};CPU c{OS o;APPMODE a;};") ≡ told (some (fi 48 25 9))
unfolding rules
autostart_wrong_side = refl

autostart_single : checked_against written (bytes_of "OIL_VERSION=\"2.5\";IMPLEMENTATION m{TASK{BOOLEAN[TRUE{APPMODE_TYPE APPMODE;},FALSE]AUTOSTART; UINT32 PRIORITY;UINT32 ACTIVATION;ENUM[NON,FULL]SCHEDULE;EVENT_TYPE EVENT[];RESOURCE_TYPE RESOURCE[];MESSAGE_TYPE MESSAGE[];};OS{};ISR{};COUNTER{};ALARM{};EVENT{};RESOURCE{};};CPU c{OS o;APPMODE a;};") ≡ told (some (fi 66 26 9))
unfolding rules
autostart_single = refl

autostart_left_out : checked_against written (bytes_of "OIL_VERSION=\"2.5\";IMPLEMENTATION m{TASK{ UINT32 PRIORITY;UINT32 ACTIVATION;ENUM[NON,FULL]SCHEDULE;EVENT_TYPE EVENT[];RESOURCE_TYPE RESOURCE[];MESSAGE_TYPE MESSAGE[];};OS{};ISR{};COUNTER{};ALARM{};EVENT{};RESOURCE{};};CPU c{OS o;APPMODE a;};") ≡ told (some (fi 35 25 10))
unfolding rules
autostart_left_out = refl

scheduler_false : checked_against written (bytes_of "OIL_VERSION=\"2.5\";IMPLEMENTATION m{OS{ENUM[STANDARD,EXTENDED]STATUS;BOOLEAN STARTUPHOOK;BOOLEAN  ERRORHOOK;BOOLEAN SHUTDOWNHOOK;BOOLEAN PRETASKHOOK;BOOLEAN POSTTASKHOOK;BOOLEAN USEGETSERVICEID;BOOLEAN USEPARAMETERACCESS;BOOLEAN USERESSCHEDULER=FALSE;};TASK{};ISR{};COUNTER{};ALARM{};EVENT{};RESOURCE{};};CPU c{OS o{STATUS=STANDARD;STARTUPHOOK=TRUE;ERRORHOOK=TRUE;SHUTDOWNHOOK=TRUE;PRETASKHOOK=TRUE;POSTTASKHOOK=TRUE;USEGETSERVICEID=TRUE;USEPARAMETERACCESS=TRUE;USERESSCHEDULER=TRUE;};APPMODE a;};") ≡ told (some (fi 252 25 10))
unfolding rules
scheduler_false = refl

scheduler_none : checked_against written (bytes_of "OIL_VERSION=\"2.5\";IMPLEMENTATION m{OS{ENUM[STANDARD,EXTENDED]STATUS;BOOLEAN STARTUPHOOK;BOOLEAN  ERRORHOOK;BOOLEAN SHUTDOWNHOOK;BOOLEAN PRETASKHOOK;BOOLEAN POSTTASKHOOK;BOOLEAN USEGETSERVICEID;BOOLEAN USEPARAMETERACCESS;BOOLEAN USERESSCHEDULER;};TASK{};ISR{};COUNTER{};ALARM{};EVENT{};RESOURCE{};};CPU c{OS o{STATUS=STANDARD;STARTUPHOOK=TRUE;ERRORHOOK=TRUE;SHUTDOWNHOOK=TRUE;PRETASKHOOK=TRUE;POSTTASKHOOK=TRUE;USEGETSERVICEID=TRUE;USEPARAMETERACCESS=TRUE;USERESSCHEDULER=TRUE;};APPMODE a;};") ≡ told (some (fi 246 25 10))
unfolding rules
scheduler_none = refl

status_default : checked_against written (bytes_of "OIL_VERSION=\"2.5\";IMPLEMENTATION m{OS{ENUM[STANDARD,EXTENDED]STATUS=STANDARD;BOOLEAN STARTUPHOOK;BOOLEAN  ERRORHOOK;BOOLEAN SHUTDOWNHOOK;BOOLEAN PRETASKHOOK;BOOLEAN POSTTASKHOOK;BOOLEAN USEGETSERVICEID;BOOLEAN USEPARAMETERACCESS;BOOLEAN USERESSCHEDULER=TRUE;};TASK{};ISR{};COUNTER{};ALARM{};EVENT{};RESOURCE{};};CPU c{OS o{STARTUPHOOK=TRUE;ERRORHOOK=TRUE;SHUTDOWNHOOK=TRUE;PRETASKHOOK=TRUE;POSTTASKHOOK=TRUE;USEGETSERVICEID=TRUE;USEPARAMETERACCESS=TRUE;USERESSCHEDULER=TRUE;};APPMODE a;};") ≡ told (some (fi 61 26 0))
unfolding rules
status_default = refl

hook_with_list : checked_against written (bytes_of "OIL_VERSION=\"2.5\";IMPLEMENTATION m{OS{ENUM[STANDARD,EXTENDED]STATUS;BOOLEAN STARTUPHOOK;BOOLEAN [TRUE{UINT32 X=1;},FALSE] ERRORHOOK;BOOLEAN SHUTDOWNHOOK;BOOLEAN PRETASKHOOK;BOOLEAN POSTTASKHOOK;BOOLEAN USEGETSERVICEID;BOOLEAN USEPARAMETERACCESS;BOOLEAN USERESSCHEDULER=TRUE;};TASK{};ISR{};COUNTER{};ALARM{};EVENT{};RESOURCE{};};CPU c{OS o{STATUS=STANDARD;STARTUPHOOK=TRUE;ERRORHOOK=TRUE;SHUTDOWNHOOK=TRUE;PRETASKHOOK=TRUE;POSTTASKHOOK=TRUE;USEGETSERVICEID=TRUE;USEPARAMETERACCESS=TRUE;USERESSCHEDULER=TRUE;};APPMODE a;};") ≡ told (some (fi 276 25 10))
unfolding rules
hook_with_list = refl
