-- the numbers and the words of lines, and the names that may follow these
pub mod Numbers
pub mod Words
-- what a line states, and what it does to the cases before it
pub mod Statements
pub mod Cases
-- the file database of a case
pub mod Database
-- what the arguments request
pub mod Requests
-- what is rendered over the files of a case
pub mod CaseOutputs
-- documents in colors of a case
pub mod Documents
-- the output of every case
pub mod Galleries
-- what a run is to write, and what its errors say
pub mod Responses
