-- What a reader must believe, in the order of the bytes. Words in quotation marks are those of documents 01 and 02, with `..` where some are left
-- out, or the headings of FORMAT.md.
pub mod Ascii
pub mod Replies
pub mod Reader
pub mod Numbers
pub mod Utf8
pub mod Strings
pub mod Types
pub mod Values
pub mod Prototypes
pub mod Blocks
pub mod File
pub mod Digits
pub mod Floats
pub mod Text
pub mod BlockText
pub mod Calls
pub mod Refusals
pub mod Cuts
pub mod Worked
pub mod WorkedCalls
